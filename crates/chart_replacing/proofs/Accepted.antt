-- What an accepted replacement tells: of its arguments, and that the new chart opens as the old one did (`taken`). Assumes nothing.
use Rattle.std.specs.Prelude.{ℕ, ◌≤◌, ◌<◌, ◌≡◌, List, ltb, eqb, length, Ok}
use Rattle.std.proofs.Common.{◌∙◌}
use borrow.Author.Tests.{ltb-true, eqb-true}
use Rattle.chart_opening.proofs.Header.{holds}
use Rattle.chart_opening.specs.Accepted.{opens, enough, opens_by, is_met, head_accepts, tail_accepts, first_accepts, then_accepts, header_ok_lem, settings_ok_lem}
use Rattle.chart_opening.specs.Header.{layout_of}
use Rattle.chart_opening.specs.Conditions.{first_of, body_of, open_conditions, open_verdict}
use Rattle.chart_opening.specs.declared.Refusal.TheVariants.{Object, Place}
use Rattle.chart_replacing.specs.Replace.{put_object, place_conditions, replace_conditions, replace_verdict}
use Rattle.chart_replacing.specs.Replaced as R
use Rattle.chart_replacing.specs.Accepted.{Taken}

module _ (s : List ℕ) (place : ℕ) (object : List ℕ) (entries : ℕ) (e : replace_verdict s place object entries ≡ Ok tt) where
  first : open_verdict s entries ≡ Ok tt
  unfolding replace_conditions
  first = first_accepts (open_conditions s entries) (place_conditions s place object) e

  here : first_of (place_conditions s place object) ≡ Ok tt
  unfolding replace_conditions
  here = then_accepts (open_conditions s entries) (place_conditions s place object) e

  parts : (place < (layout_of s).n) × (length object ≡ (layout_of s).object_size) × (first_of (body_of (put_object place object s)) ≡ Ok tt)
  unfolding place_conditions
  parts = (
    ltb-true _ _ (is_met (ltb place (layout_of s).n) Place (head_accepts _ _ here)),
    eqb-true _ _ (is_met (eqb (length object) (layout_of s).object_size) (Object place) (head_accepts _ _ (tail_accepts _ _ here))),
    tail_accepts _ _ (tail_accepts _ _ here),
  )

  pub room : (layout_of s).n ≤ entries
  room = enough s entries first

  pub taken : Taken s place object
  taken =
      let o = opens s entries first in
      let H = holds s (header_ok_lem s o) in
      record {
        opens = o;
        below = parts.0;
        long = parts.1;
        becomes = opens_by (put_object place object s)
            (R.header s place object H parts.0 parts.1 ∙ header_ok_lem s o)
            (rw (R.settings s place object H parts.0 parts.1) (settings_ok_lem s o))
            parts.2;
      }
