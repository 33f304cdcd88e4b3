-- `pack::rate_all` meets its contract. Assumes nothing.
use borrow.Author.Rules.{rules}
use mathlib.Core.Path.{refl, ◌∙◌}
use lib.ListN.{length, get_or}
use native.Mathlib.Omega.{arith}
use Rattle.calls.specs.Conditions.{lengths}
use Rattle.calls_figures.specs.Answers.{scratch_of}
use Rattle.pack.specs.Pack.{listed_verdict, tables}
use Rattle.pack.proofs.Checks.{each}
use Rattle.pack.proofs.Rated.{start, next, end}
use Rattle.pack.proofs.rate_all.Goals as goal

pub loop-i-init : goal.loop-i-init
loop-i-init c = let a = c.args in (start a.asked a.pack.now a.list.now a.keys.now (tables a.records.now a.values.now), refl, refl, refl, refl, refl, refl, refl)

pub rate_listed-k-requires : goal.rate_listed-k-requires
rate_listed-k-requires c =
    let a = c.args in
    let (g, k, r, v, x, y, z, w) = c.loop-i.invariant in
    let o = get_or a.list.now c.loop-i.i 0 in
    let e = each (listed_verdict a.asked (length a.records.now) (length a.values.now)
    (lengths (scratch_of a.aim.now a.aim_no_sliders.now a.speed.now a.flashlight.now)) a.pack.now)
    a.list.now c.requires.list_value c.loop-i.i (omega (arith, g.count, c.loop-i-test.true)) in
    (λ j. listed_verdict a.asked (r j) (v j) (record { aim = x j; aim_no_sliders = y j; speed = z j; flashlight = w j }) a.pack.now o) ∙ e

pub put_key-requires : goal.put_key-requires
put_key-requires c =
    let (g, k, r, v, x, y, z, w) = c.loop-i.invariant in
    omega (arith, g.count, k, c.loop-i-test.true, c.requires.list_len_bound.1)

pub loop-i-preserved : goal.loop-i-preserved
loop-i-preserved c =
    let a = c.args in
    let (g, k, r, v, x, y, z, w) = c.loop-i.invariant in (
      next a.asked a.pack.now a.list.now a.keys.now (tables a.records.now a.values.now) g c.loop-i-test.true _ _ _
          c.put_key.ensures c.rate_listed-k.ensures.key c.rate_listed-k.ensures.tables,
      search rules,
      search rules,
      search rules,
      search rules,
      search rules,
      search rules,
      search rules,
    )

pub returns : goal.returns
returns c =
    let a = c.args in
    let (g, k, r, v, x, y, z, w) = c.loop-i.invariant in
    let e = end a.asked a.pack.now a.list.now a.keys.now (tables a.records.now a.values.now) g c.loop-i-test.false in
    record { keys = e.0; tables = e.1 }
