-- `eval_rhythm::island::search` meets its contract. Assumes nothing.
use mathlib.Core.Path.{sym, ◌∙◌}
use native.Mathlib.Omega.{arith}
use borrow.Author.Tests.{le-ltb}
use Rattle.eval_rhythm.proofs.Search.{place_default, place_kept, compared_found, is_below, place_lost, compared_lost}
use Rattle.eval_rhythm.proofs.island.search.Goals as goal

pub returns-in-Some-clause-place : goal.returns-in-Some-clause-place
returns-in-Some-clause-place c = sym (place_default c.args.counts.now c.args.n c.args.island c.requires c.in-Some.at (sym c.first_same.ensures ∙ c.in-Some.is) (sym c.is_default.ensures ∙ c.if-is_default.true))

pub returns-in-Some-clause-found : goal.returns-in-Some-clause-found
returns-in-Some-clause-found c = rw (place_default c.args.counts.now c.args.n c.args.island c.requires c.in-Some.at (sym c.first_same.ensures ∙ c.in-Some.is) (sym c.is_default.ensures ∙ c.if-is_default.true)) (sym (le-ltb c.args.n c.args.n (omega arith)))

pub returns-in-Some-clause-compared : goal.returns-in-Some-clause-compared
returns-in-Some-clause-compared c = sym (compared_found c.args.counts.now c.args.n c.args.island c.requires c.in-Some.at (sym c.first_same.ensures ∙ c.in-Some.is))

pub returns-in-Some-2-clause-place : goal.returns-in-Some-2-clause-place
returns-in-Some-2-clause-place c = sym (place_kept c.args.counts.now c.args.n c.args.island c.requires c.in-Some.at (sym c.first_same.ensures ∙ c.in-Some.is) (sym c.is_default.ensures ∙ c.if-is_default.false))

pub returns-in-Some-2-clause-found : goal.returns-in-Some-2-clause-found
returns-in-Some-2-clause-found c = rw (place_kept c.args.counts.now c.args.n c.args.island c.requires c.in-Some.at (sym c.first_same.ensures ∙ c.in-Some.is) (sym c.is_default.ensures ∙ c.if-is_default.false)) (sym (is_below c.args.counts.now c.args.n c.args.island c.requires c.in-Some.at (sym c.first_same.ensures ∙ c.in-Some.is)))

pub returns-in-Some-2-clause-compared : goal.returns-in-Some-2-clause-compared
returns-in-Some-2-clause-compared c = sym (compared_found c.args.counts.now c.args.n c.args.island c.requires c.in-Some.at (sym c.first_same.ensures ∙ c.in-Some.is))

pub returns-in-None-clause-place : goal.returns-in-None-clause-place
returns-in-None-clause-place c = sym (place_lost c.args.counts.now c.args.n c.args.island c.requires (sym c.first_same.ensures ∙ c.in-None.is))

pub returns-in-None-clause-found : goal.returns-in-None-clause-found
returns-in-None-clause-found c = rw (place_lost c.args.counts.now c.args.n c.args.island c.requires (sym c.first_same.ensures ∙ c.in-None.is)) (sym (le-ltb c.args.n c.args.n (omega arith)))

pub returns-in-None-clause-compared : goal.returns-in-None-clause-compared
returns-in-None-clause-compared c = sym (compared_lost c.args.counts.now c.args.n c.args.island c.requires (sym c.first_same.ensures ∙ c.in-None.is))
