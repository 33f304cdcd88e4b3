-- `two_table::put_table` meets its contract: before entry i the lines of T(1) to T(i) are put. Assumes nothing.
use Prim.Native.Nat.{ℕ, suc, ◌+◌, ◌<◌}
use native.Mathlib.Numerals.{add-one}
use native.Mathlib.Omega.{arith}
use mathlib.Core.Path.{◌≡◌, ap, ◌∙◌}
use mathlib.Core.List.{List}
use lib.ListN.{get_or}
use Rattle.print_text.specs.Buffer.{Puts, none, then, same_text, length_kept}
use Rattle.num_elementary.specs.Two.{two_root}
use Rattle.num_elementary.specs.Roots.{two_roots, roots_at}
use Rattle.two_table.specs.Lines.{root_text, table_text}
use Rattle.two_table.proofs.put_table.Goals as goal

-- a line more
module _ (roots out₀ out out' : List ℕ) (at end end' i : ℕ) (table : roots ≡ two_roots 40) (few : i < 40) where
  entry : get_or roots i 0 ≡ two_root (suc i)
  entry = ap (λ (l : List ℕ). get_or l i 0) table ∙ roots_at 40 i few

  more : Puts (table_text i) out₀ at out end → Puts (root_text (i + 1) (get_or roots i 0)) out end out' end' → Puts (table_text (i + 1)) out₀ at out' end'
  unfolding table_text
  more p q = rw add-one (then p (same_text (λ k. root_text (add-one i k) (entry k)) q))

pub loop-i-init : goal.loop-i-init
unfolding table_text
loop-i-init c = none _ _

pub loop-i-preserved : goal.loop-i-preserved
loop-i-preserved c = more _ _ _ _ 0 _ _ _ c.table.ensures.1 c.loop-i-test.true c.loop-i.invariant c.put_root-end.ensures

pub shape_of-out : goal.shape_of-out
shape_of-out c = length_kept c.loop-i.invariant

pub returns : goal.returns
returns c =
    let all : c.loop-i.i ≡ 40 = omega arith in
    same_text (ap table_text all) c.loop-i.invariant
