-- `chart_opening::has_fault` meets its contract: `Walked` of proofs/Faults.antt holds at each place. Assumes nothing.
use mathlib.Core.Path.{sym, ◌∙◌}
use native.Mathlib.Omega.{arith}
use borrow.Author.Tests.{lt-ltb, le-ltb}
use Rattle.chart_fields.proofs.Search.{begin, found, none}
use Rattle.chart_entries.specs.Entries.{bad_entries}
use Rattle.chart_opening.proofs.Faults.{fault, no_fault, entries_fault}
use Rattle.chart_opening.proofs.has_fault.Goals as goal
use Rattle.chart_opening.proofs.has_fault.Goals.{else-is_slider-via-then-is_slider+else-bad_entries, else-is_slider-via-else-is_slider}

pub loop-i-init : goal.loop-i-init
loop-i-init c = record { places = begin _ _; before = λ l. absurd (omega arith) }

pub returns-then-fields_ok-i : goal.returns-then-fields_ok-i
returns-then-fields_ok-i c =
    let at = found c.loop-i.invariant.places c.loop-i-test.true (fault c.loop-i.invariant c.fields_of-f.ensures c.fields_ok.ensures c.if-fields_ok-i.true) in
    sym (lt-ltb _ _ (omega (arith, at)))

pub returns-then-bad_entries : goal.returns-then-bad_entries
returns-then-bad_entries c =
    let at = found c.loop-i.invariant.places c.loop-i-test.true (entries_fault _ _ _ (sym c.bad_entries.ensures ∙ c.if-bad_entries.true)) in
    sym (lt-ltb _ _ (omega (arith, at)))

pub loop-i-preserved : goal.loop-i-preserved
unfolding bad_entries
loop-i-preserved c =
    no_fault c.loop-i.invariant c.fields_of-f.ensures c.fields_ok.ensures c.loop-i-test.true c.if-fields_ok-i.false
    (elim c.else-is_slider.branch [
      | else-is_slider-via-then-is_slider+else-bad_entries w ↦ sym w.bad_entries.ensures ∙ w.if-bad_entries.false
      | else-is_slider-via-else-is_slider w ↦ simp (sym c.fields_of-f.ensures, sym c.is_slider.ensures ∙ w.if-is_slider.false)
    ])

pub returns : goal.returns
returns c = sym (le-ltb _ _ (omega (arith, none c.loop-i.invariant.places c.loop-i-test.false)))
