-- Demand 3: every claim of `Statement`. Assumes nothing.
use Rattle.std.specs.Prelude.{Ok}
use mathlib.Core.Path.{◌≡◌, refl, sym, ap, ◌∙◌, subst, subst⁻¹, subst₂}
use mathlib.Core.Logic.{◌↔◌}
use mathlib.Core.List.{List, [], ◌∷◌, ◌++◌, map}
use Prim.Native.Nat.{ℕ, ◌+◌, ◌-◌, ◌≤◌, ◌<◌, min}
use native.Mathlib.Omega.{arith}
use native.Mathlib.Decide.{dec_lt}
use lib.ListN.{length}
use Rattle.num_tables.specs.Parts.{row}
use Rattle.chart_fields.specs.declared.Fields.{Fields}
use Rattle.chart_opening.specs.Header.{layout_of, settings_of}
use Rattle.osu_object.specs.Osu.{osu_object, kind_of}
use Rattle.osu_object.proofs.Alike as Same
use Rattle.eval_aim.proofs.Value.{aim_combine, rule_max}
use Rattle.eval_rhythm.proofs.Bounded.{comparisons_bounded}
use Rattle.eval_values.specs.Values.{reach_of}
use Rattle.skills.proofs.Settles.{walk_unbounded}
use Rattle.calls.specs.Simulation.{answers, after, Throughout}
use Rattle.calls.specs.Tables.{value_width, Borrowed}
use Rattle.calls.specs.Afresh.{count, object, fresh_values}
use Rattle.calls.specs.Conditions.{replace}
use Rattle.calls.specs.Calls.{Answer, State, opened, open_answer, Call, perform, Question, question, plain}
use Rattle.calls.specs.Statement.{Outside, Fresh, settings_in, Admissible, Kept, edits, Sound, Frame, unplaced, Agree, Alike, Claims}
use Rattle.calls.proofs.Refusals.{opening_met, figure_accepted}
use Rattle.calls.proofs.Places.{opening_placed, replace_placed, insert_placed, remove_placed, record-placed, values_placed, detail_placed, figure_placed, refusal_told}
use Rattle.calls.proofs.Limits.{opening_limit, place_limit}
use Rattle.calls.proofs.Locality.{value_local, reach_at}
use Rattle.calls.proofs.Simulating.{simulate, after_last, throughout_front, throughout_next}
use Rattle.calls.proofs.Steps.{Inv, Good, step, opened_inv, outside_refl, outside_trans, outside_later}
use Rattle.calls.proofs.Shown.{opened_values, shown}
use Rattle.calls.proofs.Keeping.{plain_kept}
use Rattle.calls.proofs.Playing.{playing_entry, playing_whole, playing_rest, playing_refused}
use Rattle.calls.proofs.Frames.{frame}
use Rattle.calls.proofs.Moves.{insert_moves, remove_moves}
use Rattle.calls.proofs.Alone.{steps, own_calls, record_alone, values_alone, detail_alone, figure_alone, record-reads, values_reads, detail_reads, figure_reads, writes, counts, keeps, opening_reads, opening_writes, opened_outside, scratch_cleared, scratch_kept}

-- ---- The list of calls

module _ (st₀ : State) where
  abbrev asked : Call → Question
  asked = question (length st₀.records) (length st₀.values)

  -- the two machines' states
  Follows : State → List ℕ → Type 0
  Follows st b = (st.chart ≡ b) × Inv st₀ st

  follows : (c : Call) (st : State) (b : List ℕ) → Follows st b → Admissible st c → ((perform c st).0 ≡ (plain (asked c) b).0) × Follows (perform c st).1 (plain (asked c) b).1
  unfolding Follows
  follows c st b i ok =
      let g : Good st₀ st (perform c st) (plain (asked c) st.chart) = step st₀ c st i.1 ok in
      subst (λ (x : List ℕ). ((perform c st).0 ≡ (plain (asked c) x).0) × (((perform c st).1.chart ≡ (plain (asked c) x).1) × Inv st₀ (perform c st).1))
      i.0 (g.answer, (g.chart, g.inv))

  -- entries that no call on the way can have written
  outside_list : (n : ℕ) (cs : List Call) (st : State) → Inv st₀ st → Throughout perform Admissible cs st
      → Throughout perform (λ s c. count (perform c s).1.chart ≤ n) cs st → Outside n st (after perform cs st)
  unfolding Throughout after
  outside_list n [] st i t h = outside_refl n st
  outside_list n (c ∷ cs) st i t h =
      let g : Good st₀ st (perform c st) (plain (asked c) st.chart) = step st₀ c st i t.0 in
      outside_trans (outside_later n h.0 g.outside) (outside_list n cs (perform c st).1 g.inv t.1 h.1)

opened_chart : (st : State) → (opened st).chart ≡ st.chart
unfolding opened
opened_chart st = refl

module _ (st₀ : State) (e : open_answer st₀ ≡ Ok tt) where
  start : Inv st₀ (opened st₀)
  unfolding open_answer
  start = let (o, r) = opening_met (length st₀.records) (length st₀.values) st₀.chart e in opened_inv st₀ o r

  module _ (cs : List Call) (t : Throughout perform Admissible cs (opened st₀)) where
    end : State
    end = after perform cs (opened st₀)

    together : (answers perform cs (opened st₀) ≡ answers plain (map (asked st₀) cs) st₀.chart) × Follows st₀ (after perform cs (opened st₀)) (after plain (map (asked st₀) cs) st₀.chart)
    unfolding Follows
    together =
        simulate perform plain (asked st₀) Admissible (λ (x : State) (b : List ℕ). (x.chart ≡ b) × Inv st₀ x) (follows st₀) cs (opened st₀) st₀.chart (opened_chart st₀, start) t

    list : Sound st₀ cs (after perform cs (opened st₀)) (answers perform cs (opened st₀))
    unfolding Follows open_answer
    list =
        let i : Inv st₀ (after perform cs (opened st₀)) = together.1.1 in
        let st : State = after perform cs (opened st₀) in
        record {
          same = together.0;
          chart = together.1.0;
          kept = subst₂ (λ (x : List Answer) (y : List ℕ). Kept st₀.chart (edits cs x) y) (sym together.0) (sym together.1.0)
              (plain_kept (length st₀.records) (length st₀.values) cs st₀.chart);
          shown = shown st₀ st i;
          outside = λ n h m. outside_trans (outside_later n h (opened_outside st₀ e)) (outside_list st₀ n cs (opened st₀) start t m);
        }

-- ---- A replacement in such a list

frame_in_list : (st₀ : State) → open_answer st₀ ≡ Ok tt
    → (cs ds : List Call) (k : ℕ) (o : List ℕ) (t u : Borrowed)
    → let c : Call = record { operation = replace k o; records = t; values = u } in Throughout perform Admissible (cs ++ (c ∷ ds)) (opened st₀)
    → let x = after perform cs (opened st₀) in let y = after perform (cs ++ (c ∷ [])) (opened st₀) in
    Frame k x y × Fresh (settings_in x) x × Fresh (settings_in y) y
frame_in_list st₀ e cs ds k o t u h =
    let c : Call = record { operation = replace k o; records = t; values = u } in
    let x : State = after perform cs (opened st₀) in (
      subst⁻¹ (Frame k x) (after_last perform Admissible cs c (opened st₀)) (frame k o t u x),
      (list st₀ e cs (throughout_front perform Admissible cs (c ∷ ds) (opened st₀) h)).shown.fresh,
      (list st₀ e (cs ++ (c ∷ [])) (throughout_next perform Admissible cs c ds (opened st₀) h)).shown.fresh,
    )

-- ---- Likeness

-- objects that agree are the same object
agreed : (i : ℕ) (b b' : List ℕ) → Agree i b b' → object b i ≡ object b' i
unfolding unplaced osu_object kind_of
agreed i b b' a =
    Same.object_same b (layout_of b) i b' (layout_of b') i (record {
      base = ap osu_object a.fields;
      nested_count_lem = ap (λ (f : Fields). f.nested_count) a.fields;
      point_count_lem = ap (λ (f : Fields). f.point_count) a.fields;
      nested = a.nested;
      points = a.points;
    })

reach_alike : (j : ℕ) (b b' : List ℕ) → Alike j b b' → reach_of (count b) j ≡ reach_of (count b') j
reach_alike j b b' a = go (dec_lt (j + 1) (count b)) (dec_lt (j + 1) (count b'))
  where
    p : (j + 1 < count b) ↔ (j + 1 < count b')
    p = a.places (j + 1) (omega arith) (omega arith)

    go : Dec (j + 1 < count b) → Dec (j + 1 < count b') → min (j + 1) (count b - 1) ≡ min (j + 1) (count b' - 1)
    go (yes x) d = omega (arith, p.0 x)
    go (no x) (yes y) = absurd (x (p.1 y))
    go (no x) (no y) = omega (arith, a.here.1, a.here.2)

likeness : (j : ℕ) (b b' : List ℕ) → Alike j b b' → fresh_values (settings_of b) b j ≡ fresh_values (settings_of b') b' j
likeness j b b' a =
    value_local (settings_of b) b b' j a.here.0 a.here.1 (reach_alike j b b' a)
    (λ i x y. let r = reach_at b j a.here.1 in agreed i b b' (a.objects i x (omega (arith, r.1)) (omega (arith, r.2))))
    ∙ ap (λ s. fresh_values s b' j) a.same_settings

-- the same of what the tables hold after both were opened
likeness_opened : (j : ℕ) (st st' : State) → open_answer st ≡ Ok tt → open_answer st' ≡ Ok tt → Alike j st.chart st'.chart
    → row value_width (opened st).values j ≡ row value_width (opened st').values j
likeness_opened j st st' e e' a =
    opened_values st e j a.here.0 a.here.1 ∙ (likeness j st.chart st'.chart a ∙ sym (opened_values st' e' j a.here.0 a.here.2))

-- ---- All of it

pub theorem : Claims
theorem = record {
  list = list;
  steps = steps;
  record_alone = λ k b rs vs. record_alone b rs vs k;
  values_alone = λ k b rs vs. values_alone b rs vs k;
  detail_alone = λ d k b rs vs. detail_alone b rs vs d k;
  figure_alone = λ f l b rs vs. figure_alone b rs vs f l;
  own_calls = own_calls;
  opening_writes = opening_writes;
  writes = writes;
  keeps = keeps;
  opening_reads = opening_reads;
  record-reads = record-reads;
  values_reads = values_reads;
  detail_reads = detail_reads;
  figure_reads = figure_reads;
  counts = counts;
  frame = frame;
  frame_in_list = frame_in_list;
  insert_moves = insert_moves;
  remove_moves = remove_moves;
  alike = likeness;
  alike_opened = likeness_opened;
  opening_placed = opening_placed;
  replace_placed = replace_placed;
  insert_placed = insert_placed;
  remove_placed = remove_placed;
  record-placed = record-placed;
  values_placed = values_placed;
  detail_placed = detail_placed;
  figure_placed = figure_placed;
  opening_limit = opening_limit;
  place_limit = place_limit;
  refusal_told = refusal_told;
  figure_accepted = figure_accepted;
  scratch_cleared = scratch_cleared;
  scratch_kept = scratch_kept;
  playing_entry = playing_entry;
  playing_whole = playing_whole;
  playing_rest = playing_rest;
  playing_refused = playing_refused;
  aim_together = aim_combine;
  aim_rule = rule_max;
  rhythm_bounded = comparisons_bounded;
  sections = walk_unbounded;
}
