-- `pack::list_all` meets its contract. Assumes nothing.
use borrow.Author.Rules.{rules}
use mathlib.Core.Path.{◌∙◌}
use native.Mathlib.Omega.{arith}
use Rattle.calls_figures.specs.Answers.{scratch_of}
use Rattle.pack.specs.Pack.{tables}
use Rattle.pack.proofs.Lists.{few, all_pass, sortable, listing, all_listed}
use Rattle.pack.proofs.list_all.Goals as goal

pub rate_all-requires : goal.rate_all-requires
rate_all-requires c =
    let a = c.args in
    let h = few a.asked a.pack.now a.list.now (tables a.records.now a.values.now) (scratch_of a.aim.now a.aim_no_sliders.now a.speed.now a.flashlight.now) c.requires in
    record {
      list_len_bound = (h, omega (arith, h));
      list_value = all_pass a.asked a.pack.now a.list.now (tables a.records.now a.values.now) (scratch_of a.aim.now a.aim_no_sliders.now a.speed.now a.flashlight.now) c.requires;
    }

pub join-requires : goal.join-requires
join-requires c =
    let a = c.args in
    let h = few a.asked a.pack.now a.list.now (tables a.records.now a.values.now) (scratch_of a.aim.now a.aim_no_sliders.now a.speed.now a.flashlight.now) c.requires in
    (sortable a.asked a.pack.now a.list.now (tables a.records.now a.values.now) (scratch_of a.aim.now a.aim_no_sliders.now a.speed.now a.flashlight.now) c.requires _ (omega (arith, h)), h)

pub returns : goal.returns
returns c =
    let a = c.args in
    let r = c.rate_all.ensures in
    let h = few a.asked a.pack.now a.list.now (tables a.records.now a.values.now) (scratch_of a.aim.now a.aim_no_sliders.now a.speed.now a.flashlight.now) c.requires in
    all_listed a.asked a.pack.now a.list.now (tables a.records.now a.values.now) (scratch_of a.aim.now a.aim_no_sliders.now a.speed.now a.flashlight.now) _
    (c.join.ensures ∙ listing a.asked a.pack.now a.list.now (tables a.records.now a.values.now) (scratch_of a.aim.now a.aim_no_sliders.now a.speed.now a.flashlight.now) _ (omega (arith, h)) r.keys) r.tables c.clear_all.ensures
    (search rules) (search rules) (search rules) (search rules)
