-- What an accepted insertion or removal tells: of its arguments, and that the new chart opens as the old one did (`inserted`, `removed`). Assumes nothing.
use Rattle.std.specs.Prelude.{ℕ, ◌+◌, ◌≤◌, ◌<◌, ◌≡◌, false, List, [], ◌∷◌, ◌++◌, ltb, leb, eqb, length, Ok}
use borrow.Author.Tests.{ltb-true, ltb-false, leb-true, eqb-true}
use Rattle.chart_opening.specs.Accepted.{opens, enough, opens_by, is_met, not_met, head_accepts, tail_accepts, first_accepts, then_accepts, header_ok_lem, settings_ok_lem}
use Rattle.chart_opening.specs.Header.{layout_of}
use Rattle.chart_opening.specs.Conditions.{first_of, body_of, chart_conditions, too_few, open_conditions, open_verdict}
use Rattle.chart_opening.specs.declared.Refusal.TheVariants.{Object, Table, Place, Room}
use Rattle.chart_inserting.specs.Insert.{insert_object, remove_object, no_room, insert_place_conditions, insert_conditions, insert_verdict, remove_place_conditions, remove_conditions, remove_verdict}
use Rattle.chart_inserting.specs.Inserted as I
use Rattle.chart_inserting.specs.Removed as R
use Rattle.chart_inserting.specs.Accepted.{Inserted, Removed}

-- ---- Insertion

module _ (s : List ℕ) (place : ℕ) (object : List ℕ) (entries : ℕ) (e : insert_verdict s place object entries ≡ Ok tt) where
  chart_first : first_of (chart_conditions s ++ (too_few entries ((layout_of s).n + 1) ∷ [])) ≡ Ok tt
  unfolding insert_conditions
  chart_first = first_accepts (chart_conditions s ++ (too_few entries ((layout_of s).n + 1) ∷ [])) (insert_place_conditions s place object) e

  then_place : first_of (insert_place_conditions s place object) ≡ Ok tt
  unfolding insert_conditions
  then_place = then_accepts (chart_conditions s ++ (too_few entries ((layout_of s).n + 1) ∷ [])) (insert_place_conditions s place object) e

  parts : (place ≤ (layout_of s).n) × (no_room s ≡ false) × (length object ≡ (layout_of s).object_size) × (first_of (body_of (insert_object place object s)) ≡ Ok tt)
  unfolding insert_place_conditions
  parts =
      let e9 = tail_accepts _ _ then_place in
      let e3 = tail_accepts _ _ e9 in (
        leb-true _ _ (is_met (leb place (layout_of s).n) Place (head_accepts _ _ then_place)),
        not_met (no_room s) Room (head_accepts _ _ e9),
        eqb-true _ _ (is_met (eqb (length object) (layout_of s).object_size) (Object place) (head_accepts _ _ e3)),
        tail_accepts _ _ e3,
      )

  pub insert_entries : (layout_of s).n + 1 ≤ entries
  insert_entries = ltb-false entries ((layout_of s).n + 1) (not_met _ Table (head_accepts _ _ (then_accepts (chart_conditions s) _ chart_first)))

  pub inserted : Inserted s place object
  inserted =
      let o = first_accepts (chart_conditions s) _ chart_first in
      let h = header_ok_lem s o in
      record {
        opens = o;
        at = parts.0;
        room = parts.1;
        long = parts.2;
        becomes = opens_by (insert_object place object s)
            (I.header s place object h parts.0 parts.1 parts.2)
            (rw (I.settings s place object h parts.0 parts.1 parts.2) (settings_ok_lem s o))
            parts.3;
      }

-- ---- Removal

module _ (s : List ℕ) (place : ℕ) (entries : ℕ) (e : remove_verdict s place entries ≡ Ok tt) where
  opening : open_verdict s entries ≡ Ok tt
  unfolding remove_conditions
  opening = first_accepts (open_conditions s entries) (remove_place_conditions s place) e

  then_below : first_of (remove_place_conditions s place) ≡ Ok tt
  unfolding remove_conditions
  then_below = then_accepts (open_conditions s entries) (remove_place_conditions s place) e

  below-and_body : (place < (layout_of s).n) × (first_of (body_of (remove_object place s)) ≡ Ok tt)
  unfolding remove_place_conditions
  below-and_body = (ltb-true _ _ (is_met (ltb place (layout_of s).n) Place (head_accepts _ _ then_below)), tail_accepts _ _ then_below)

  pub remove_entries : (layout_of s).n ≤ entries
  remove_entries = enough s entries opening

  pub removed : Removed s place
  removed =
      let o = opens s entries opening in
      let h = header_ok_lem s o in
      record {
        opens = o;
        below = below-and_body.0;
        becomes = opens_by (remove_object place s)
            (R.header s place h below-and_body.0)
            (rw (R.settings s place h below-and_body.0) (settings_ok_lem s o))
            below-and_body.1;
      }
