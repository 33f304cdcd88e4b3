-- `num_two_table::table` meets its contract: before the entry at index i the entries are T(1) to T(i), and t is T(i). Assumes nothing.
use Prim.Native.Nat.{ℕ, suc, ◌*◌, ◌^◌, ◌≤◌, ◌<◌}
use native.Mathlib.Numerals.{add-one}
use native.Mathlib.Omega.{arith}
use mathlib.Core.Path.{◌≡◌, refl, sym, ap, ◌∙◌, subst}
use mathlib.Core.List.{List, [], ◌∷◌, ◌++◌}
use lib.ListN.{length, take, set, length-set}
use lib.Seq.{take_all, take-suc-set}
use Rattle.num_elementary.specs.Two.{two_root}
use Rattle.num_elementary.specs.Roots.{two_roots}
use Rattle.num_elementary.specs.TwoLaws.{root_entry, root_rule}
use Rattle.num_two_table.specs.Rule.{Largest, Table}
use Rattle.num_two_table.proofs.RuleLaws.{largest, largest_unique, roots_table}
use Rattle.num_two_table.proofs.table.Goals as goal

-- an entry more
module _ (roots : List ℕ) (i u : ℕ) (room : i < length roots) (so_far : take i roots ≡ two_roots i) (h : Largest (two_root i * 2 ^ 62) u) where
  is : u ≡ two_root (suc i)
  is = largest_unique h (largest (root_rule i))

  more : take (suc i) (set roots i u) ≡ two_roots (suc i)
  unfolding two_roots
  more = take-suc-set roots i u room ∙ (ap (λ (l : List ℕ). l ++ (u ∷ [])) so_far ∙ ap (λ (x : ℕ). two_roots i ++ (x ∷ [])) is)

pub loop-root-init : goal.loop-root-init
unfolding two_root two_roots
loop-root-init c = (refl, refl, refl)

pub next_root-t-requires : goal.next_root-t-requires
next_root-t-requires c = let l = c.loop-root in subst (λ (x : ℕ). x ≤ 2 ^ 63) (sym l.invariant.1) (root_entry l.root-index (omega arith)).most

pub loop-root-preserved : goal.loop-root-preserved
loop-root-preserved c =
    let l = c.loop-root in
    let i = l.root-index in
    let u = c.next_root-t.result in
    let h : Largest (two_root i * 2 ^ 62) u = subst (λ (x : ℕ). Largest (x * 2 ^ 62) u) l.invariant.1 c.next_root-t.ensures in
    let room : i < length l.root-items = omega arith in (
      length-set l.root-items i u ∙ l.invariant.0,
      is l.root-items i u room l.invariant.2 h ∙ ap two_root (sym (add-one i)),
      subst (λ (n : ℕ). take n (set l.root-items i u) ≡ two_roots n) (sym (add-one i)) (more l.root-items i u room l.invariant.2 h),
    )

pub returns : goal.returns
returns c =
    let l = c.loop-root in
    let all : l.root-index ≡ 40 = omega arith in
    let same : l.root-items ≡ two_roots 40 = sym (take_all 40 l.root-items (omega arith)) ∙ subst (λ (n : ℕ). take n l.root-items ≡ two_roots n) all l.invariant.2 in
    (subst (Table 40) (sym same) (roots_table 40), same)
