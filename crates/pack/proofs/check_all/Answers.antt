-- `pack::check_all` meets its contract. Assumes nothing.
use Rattle.std.proofs.lemmas.Result.{err_from_is_err_and}
use Rattle.pack.specs.Pack.{listed_check}
use mathlib.Core.Path.{sym, ◌∙◌}
use Rattle.pack.proofs.Checks.{start, next, found, end}
use Rattle.pack.proofs.check_all.Goals as goal

pub loop-at-init : goal.loop-at-init
loop-at-init c = let a = c.args in start (listed_check a.entries a.short a.finite a.pack.now) a.list.now

pub returns-in_err-check_listed : goal.returns-in_err-check_listed
returns-in_err-check_listed c =
    let a = c.args in
    let p = err_from_is_err_and c.from_residual.result c.from_residual.ensures.1 in
    rw (p.1, p.2) (
    found (listed_check a.entries a.short a.finite a.pack.now) a.list.now c.loop-at.invariant c.loop-at-test.true
    (sym c.check_listed.ensures ∙ c.in_err-check_listed.was)
    )

pub loop-at-preserved : goal.loop-at-preserved
loop-at-preserved c =
    let a = c.args in
    next (listed_check a.entries a.short a.finite a.pack.now) a.list.now c.loop-at.invariant c.loop-at-test.true
    (sym c.check_listed.ensures ∙ c.in_ok-check_listed.was)

pub returns : goal.returns
returns c = let a = c.args in end (listed_check a.entries a.short a.finite a.pack.now) a.list.now c.loop-at.invariant c.loop-at-test.false
