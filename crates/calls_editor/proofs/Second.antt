-- An edit for both players: what it answers, what it leaves of both players' tables, and what a chart after an accepted edit tells of them. Assumes nothing.
use Rattle.std.specs.Prelude.{Ok, Err}
use Prim.Native.Nat.{ℕ, suc, ◌+◌, ◌-◌, ◌*◌, ◌≤◌, ◌<◌}
use mathlib.Core.Path.{◌≡◌, refl, sym, ap, ◌∙◌}
use mathlib.Core.List.{List}
use lib.Ieee.{Float}
use lib.ListN.{length}
use native.Mathlib.Omega.{arith}
use Rattle.num_tables.specs.Parts.{rows_up, rows_down}
use Rattle.chart_fields.specs.Limits.{header_size}
use Rattle.chart_opening.specs.Limits.{settings_size}
use Rattle.chart_opening.specs.Header.{settings_of, settings_at}
use Rattle.chart_opening.specs.Accepted.{header_ok_lem}
use Rattle.chart_opening.specs.Conditions.{if_accepted, open_verdict}
use Rattle.chart_opening.specs.declared.Settings.{Settings}
use Rattle.chart_opening.specs.declared.Refusal.{Refusal}
use Rattle.chart_opening.specs.Verdict.{Verdict}
use Rattle.chart_opening.proofs.Header.{parts}
use Rattle.chart_replacing.specs.Replace.{put_object, replace_verdict}
use Rattle.chart_replacing.specs.Accepted.{Taken}
use Rattle.chart_replacing.proofs.Accepted.{taken, room}
use Rattle.chart_inserting.specs.Insert.{insert_object, remove_object, insert_verdict, remove_verdict}
use Rattle.chart_inserting.specs.Accepted.{Inserted, Removed}
use Rattle.chart_inserting.proofs.Accepted.{inserted, insert_entries, removed, remove_entries}
use Rattle.chart_players.specs.Second.{under, second_verdict, both_verdict}
use Rattle.chart_players.specs.Under.{for_settings, settings_under}
use Rattle.chart_players.specs.Commutes.{put_object_under, insert_object_under, remove_object_under}
use Rattle.chart_players.proofs.Verdicts.{second_accepted, settings_are, both_accepted}
use Rattle.calls.specs.Tables.{record_width, value_width, entries_of}
use Rattle.calls.specs.Afresh.{count}
use Rattle.calls.specs.Conditions.{replace, insert, remove, refusal}
use Rattle.calls.specs.Calls.{replaced_records, replaced_values, inserted_records, inserted_values, removed_records, removed_values, first_moved, open_records, open_values, edit_records, edit_values, state, opened, open_answer, edited, put_in, taken_out, execute, verdict_in}
use Rattle.calls.proofs.Replacing.{count_same}
use Rattle.calls.proofs.Moving.{inserted_more, removed_more}
use Rattle.calls_players.specs.Second.{seen, open_answer_as, opened_as, open_leaves_as, verdict_as}
use Rattle.calls_players.specs.Both.{Pair, pair, both_answer, edited_both, both_leaves}
use Rattle.calls_players.specs.Same.{count_under, open_records_under, open_values_under, edit_records_under, edit_values_under}
use Rattle.calls_players.proofs.Own.{both_left}
use Rattle.calls_editor.specs.Answers.{Fits}
use Rattle.calls_editor.proofs.Fits.{fits_by}

pub count_less : {m n : ℕ} → m ≡ suc n → m - 1 ≡ n
count_less e = omega (arith, e)

pub count_more : {m n : ℕ} → n ≡ suc m → m + 1 ≡ n
count_more e = omega (arith, e)

-- ---- The chart after an accepted edit, with a player's tables

module _ (b : List ℕ) (k : ℕ) (o : List ℕ) (r v : ℕ) where
  replaced_as : Taken b k o → count b ≤ entries_of r v → Fits (put_object k o b) r v × (k < count (put_object k o b))
  replaced_as x h = let n = count_same k o b x in (fits_by (put_object k o b) r v x.becomes (omega (arith, n, h)), omega (arith, n, x.below))

  pub replaced_fits : replace_verdict b k o (entries_of r v) ≡ Ok tt → Fits (put_object k o b) r v × (k < count (put_object k o b))
  replaced_fits e = replaced_as (taken b k o (entries_of r v) e) (room b k o (entries_of r v) e)

  pub replaced_fits_second : (t : List ℕ) → Taken b k o → second_verdict t b (replace_verdict (under t b) k o (entries_of r v)) ≡ Ok tt
      → (Fits (put_object k o b) r v × (k < count (put_object k o b))) × (length t ≡ settings_size)
  replaced_fits_second t x e =
      let p = second_accepted t b _ e in
      let h = room (under t b) k o (entries_of r v) p.then in
      (replaced_as x (omega (arith, h, count_under t b)), p.size)

  inserted_as : Inserted b k o → count b + 1 ≤ entries_of r v → Fits (insert_object k o b) r v × (k < count (insert_object k o b))
  inserted_as x h = let n = (inserted_more b k o x).counts in (fits_by (insert_object k o b) r v x.becomes (omega (arith, n, h)), omega (arith, n, x.at))

  pub inserted_fits : insert_verdict b k o (entries_of r v) ≡ Ok tt → Fits (insert_object k o b) r v × (k < count (insert_object k o b))
  inserted_fits e = inserted_as (inserted b k o (entries_of r v) e) (insert_entries b k o (entries_of r v) e)

  pub inserted_fits_second : (t : List ℕ) → Inserted b k o → second_verdict t b (insert_verdict (under t b) k o (entries_of r v)) ≡ Ok tt
      → (Fits (insert_object k o b) r v × (k < count (insert_object k o b))) × (length t ≡ settings_size)
  inserted_fits_second t x e =
      let p = second_accepted t b _ e in
      let h = insert_entries (under t b) k o (entries_of r v) p.then in
      (inserted_as x (omega (arith, h, count_under t b)), p.size)

-- what moving rows down asks besides
abbrev pub FitsMore : List ℕ → ℕ → ℕ → ℕ → Type 0
FitsMore b k r v = Fits b r v × (k ≤ count b) × (record_width * (count b + 1) ≤ r) × (value_width * (count b + 1) ≤ v)

module _ (b : List ℕ) (k r v : ℕ) where
  removed_as : Removed b k → count b ≤ entries_of r v → FitsMore (remove_object k b) k r v
  removed_as x h =
      let n : count b ≡ suc (count (remove_object k b)) = (removed_more b k x).counts in
      (fits_by (remove_object k b) r v x.becomes (omega (arith, n, h)), omega (arith, n, x.below), omega (arith, n, h), omega (arith, n, h))

  pub removed_fits : remove_verdict b k (entries_of r v) ≡ Ok tt → FitsMore (remove_object k b) k r v
  removed_fits e = removed_as (removed b k (entries_of r v) e) (remove_entries b k (entries_of r v) e)

  pub removed_fits_second : (t : List ℕ) → Removed b k → second_verdict t b (remove_verdict (under t b) k (entries_of r v)) ≡ Ok tt
      → FitsMore (remove_object k b) k r v × (length t ≡ settings_size)
  removed_fits_second t x e =
      let p = second_accepted t b _ e in
      let h = remove_entries (under t b) k (entries_of r v) p.then in
      (removed_as x (omega (arith, h, count_under t b)), p.size)

-- ---- The second player's tables after an edit that makes b' of the chart

module _ (t b' : List ℕ) (h : header_size ≤ length b') (i : length t ≡ settings_size) (b'' : List ℕ) (q : b'' ≡ under t b') (k e f : ℕ) where
  settings_after : settings_of (under t b') ≡ settings_at t 0
  settings_after = settings_under t b' h ∙ ap (λ (x : List ℕ). settings_at x 0) (for_settings t i)

  pub records_after : (rs : List Float) → edit_records (settings_of b'') b'' k e rs ≡ edit_records (settings_at t 0) b' k e rs
  records_after rs =
      ap (λ (x : List ℕ). edit_records (settings_of x) x k e rs) q
      ∙ (ap (λ (s : Settings). edit_records s (under t b') k e rs) settings_after ∙ edit_records_under t b' (settings_at t 0) k e rs)

  pub values_after : (rs vs : List Float)
      → edit_values (settings_of b'') b'' k f (edit_records (settings_of b'') b'' k e rs) vs ≡ edit_values (settings_at t 0) b' k f (edit_records (settings_at t 0) b' k e rs) vs
  values_after rs vs =
      ap (λ (x : List Float). edit_values (settings_of b'') b'' k f x vs) (records_after rs)
      ∙ (ap (λ (x : List ℕ). edit_values (settings_of x) x k f (edit_records (settings_at t 0) b' k e rs) vs) q
      ∙ (ap (λ (s : Settings). edit_values s (under t b') k f (edit_records (settings_at t 0) b' k e rs) vs) settings_after
      ∙ edit_values_under t b' (settings_at t 0) k f (edit_records (settings_at t 0) b' k e rs) vs))

-- ---- What an edit for both answers and leaves

module _ (t b : List ℕ) (rs vs rs₂ vs₂ : List Float) where
  abbrev players : Pair
  players = pair b rs vs rs₂ vs₂

  abbrev mine : ℕ
  mine = entries_of (length rs) (length vs)

  abbrev theirs : ℕ
  theirs = entries_of (length rs₂) (length vs₂)

  -- an edit's tables, under a player's settings, with rows made anew up to these ends
  abbrev brought : Settings → List ℕ → ℕ → ℕ → ℕ → List Float → List Float → List Float × List Float
  brought s b' k e f x y = (edit_records s b' k e x, edit_values s b' k f (edit_records s b' k e x) y)

  abbrev after_both : List ℕ → List Float × List Float → List Float × List Float → Pair
  after_both b' x y = pair b' x.0 x.1 y.0 y.1

  module _ (k : ℕ) (o : List ℕ) where
    pub replace_both_is : (v : Verdict) → v ≡ both_verdict (replace_verdict b k o mine) (second_verdict t b (replace_verdict (under t b) k o theirs)) → v ≡ both_answer t (replace k o) players
    unfolding both_answer verdict_as verdict_in refusal seen
    replace_both_is v e = e

    pub replace_both_left : both_verdict (replace_verdict b k o mine) (second_verdict t b (replace_verdict (under t b) k o theirs)) ≡ Ok tt
        → let b' = put_object k o b in both_leaves t (replace k o) players
        ≡ after_both b' (brought (settings_of b') b' k (replaced_records k) (replaced_values k) rs vs) (brought (settings_at t 0) b' k (replaced_records k) (replaced_values k) rs₂ vs₂)
    unfolding edited_both execute edited seen
    replace_both_left e =
        let (e₁, e₂) = both_accepted _ _ e in
        let x = taken b k o mine e₁ in
        let b' : List ℕ = put_object k o b in
        let q = put_object_under t b k o x in
        let p = second_accepted t b _ e₂ in
        let h : header_size ≤ length b' = (parts b' (header_ok_lem b' x.becomes)).long in
        both_left t (replace k o) players (sym (replace_both_is _ refl) ∙ e)
        ∙ (λ z. pair b' (edit_records (settings_of b') b' k (replaced_records k) rs)
        (edit_values (settings_of b') b' k (replaced_values k) (edit_records (settings_of b') b' k (replaced_records k) rs) vs)
        (records_after t b' h p.size (put_object k o (under t b)) q k (replaced_records k) (replaced_values k) rs₂ z)
        (values_after t b' h p.size (put_object k o (under t b)) q k (replaced_records k) (replaced_values k) rs₂ vs₂ z))

    pub insert_both_is : (v : Verdict) → v ≡ both_verdict (insert_verdict b k o mine) (second_verdict t b (insert_verdict (under t b) k o theirs)) → v ≡ both_answer t (insert k o) players
    unfolding both_answer verdict_as verdict_in refusal seen
    insert_both_is v e = e

    pub insert_both_left : both_verdict (insert_verdict b k o mine) (second_verdict t b (insert_verdict (under t b) k o theirs)) ≡ Ok tt
        → let b' = insert_object k o b in let up = rows_up record_width (first_moved k) (count b) in let upv = rows_up value_width (first_moved k) (count b) in
        both_leaves t (insert k o) players
        ≡ after_both b' (brought (settings_of b') b' k (inserted_records k) (inserted_values k) (up rs) (upv vs)) (brought (settings_at t 0) b' k (inserted_records k) (inserted_values k) (up rs₂) (upv vs₂))
    unfolding edited_both execute put_in seen
    insert_both_left e =
        let (e₁, e₂) = both_accepted _ _ e in
        let x = inserted b k o mine e₁ in
        let b' : List ℕ = insert_object k o b in
        let q = insert_object_under t b k o x in
        let p = second_accepted t b _ e₂ in
        let h : header_size ≤ length b' = (parts b' (header_ok_lem b' x.becomes)).long in
        let first-records : List Float = edit_records (settings_of b') b' k (inserted_records k) (rows_up record_width (first_moved k) (count b) rs) in
        let first_values : List Float = edit_values (settings_of b') b' k (inserted_values k) first-records (rows_up value_width (first_moved k) (count b) vs) in
        both_left t (insert k o) players (sym (insert_both_is _ refl) ∙ e)
        ∙ ((λ z. let b'' = insert_object k o (under t b) in let y = edit_records (settings_of b'') b'' k (inserted_records k) (rows_up record_width (first_moved k) (count_under t b z) rs₂) in
        pair b' first-records first_values y (edit_values (settings_of b'') b'' k (inserted_values k) y (rows_up value_width (first_moved k) (count_under t b z) vs₂)))
        ∙ (λ z. pair b' first-records first_values
        (records_after t b' h p.size (insert_object k o (under t b)) q k (inserted_records k) (inserted_values k) (rows_up record_width (first_moved k) (count b) rs₂) z)
        (values_after t b' h p.size (insert_object k o (under t b)) q k (inserted_records k) (inserted_values k) (rows_up record_width (first_moved k) (count b) rs₂) (rows_up value_width (first_moved k) (count b) vs₂) z)))

  module _ (k : ℕ) where
    pub remove_both_is : (v : Verdict) → v ≡ both_verdict (remove_verdict b k mine) (second_verdict t b (remove_verdict (under t b) k theirs)) → v ≡ both_answer t (remove k) players
    unfolding both_answer verdict_as verdict_in refusal seen
    remove_both_is v e = e

    pub remove_both_left : both_verdict (remove_verdict b k mine) (second_verdict t b (remove_verdict (under t b) k theirs)) ≡ Ok tt
        → let b' = remove_object k b in let down = rows_down record_width (first_moved k) (count b) in let downv = rows_down value_width (first_moved k) (count b) in
        both_leaves t (remove k) players
        ≡ after_both b' (brought (settings_of b') b' k (removed_records k) (removed_values k) (down rs) (downv vs)) (brought (settings_at t 0) b' k (removed_records k) (removed_values k) (down rs₂) (downv vs₂))
    unfolding edited_both execute taken_out seen
    remove_both_left e =
        let (e₁, e₂) = both_accepted _ _ e in
        let x = removed b k mine e₁ in
        let b' : List ℕ = remove_object k b in
        let q = remove_object_under t b k x in
        let p = second_accepted t b _ e₂ in
        let h : header_size ≤ length b' = (parts b' (header_ok_lem b' x.becomes)).long in
        let first-records : List Float = edit_records (settings_of b') b' k (removed_records k) (rows_down record_width (first_moved k) (count b) rs) in
        let first_values : List Float = edit_values (settings_of b') b' k (removed_values k) first-records (rows_down value_width (first_moved k) (count b) vs) in
        both_left t (remove k) players (sym (remove_both_is _ refl) ∙ e)
        ∙ ((λ z. let b'' = remove_object k (under t b) in let y = edit_records (settings_of b'') b'' k (removed_records k) (rows_down record_width (first_moved k) (count_under t b z) rs₂) in
        pair b' first-records first_values y (edit_values (settings_of b'') b'' k (removed_values k) y (rows_down value_width (first_moved k) (count_under t b z) vs₂)))
        ∙ (λ z. pair b' first-records first_values
        (records_after t b' h p.size (remove_object k (under t b)) q k (removed_records k) (removed_values k) (rows_down record_width (first_moved k) (count b) rs₂) z)
        (values_after t b' h p.size (remove_object k (under t b)) q k (removed_records k) (removed_values k) (rows_down record_width (first_moved k) (count b) rs₂) (rows_down value_width (first_moved k) (count b) vs₂) z)))

-- ---- Opening for the second player

module _ (t b : List ℕ) (rs vs : List Float) where
  pub open_as_is : (v : Verdict) → v ≡ second_verdict t b (open_verdict (under t b) (entries_of (length rs) (length vs))) → v ≡ open_answer_as t (state b rs vs)
  unfolding open_answer_as open_answer seen
  open_as_is v e = e

  pub open_as_refused : (r : Refusal) → second_verdict t b (open_verdict (under t b) (entries_of (length rs) (length vs))) ≡ Err r → open_leaves_as t (state b rs vs) ≡ state b rs vs
  unfolding open_leaves_as open_answer_as open_answer if_accepted seen
  open_as_refused r e = ap (λ (v : Verdict). if_accepted v (opened_as t (state b rs vs)) (λ q. state b rs vs)) e

  pub open_as_accepted : second_verdict t b (open_verdict (under t b) (entries_of (length rs) (length vs))) ≡ Ok tt
      → open_leaves_as t (state b rs vs) ≡ state b (open_records (settings_at t 0) b rs) (open_values (settings_at t 0) b (open_records (settings_at t 0) b rs) vs)
  unfolding open_leaves_as open_answer_as open_answer if_accepted opened_as opened seen
  open_as_accepted e =
      let p = second_accepted t b _ e in
      let s = settings_are t b p.header p.size in
      let x : open_records (settings_of (under t b)) (under t b) rs ≡ open_records (settings_at t 0) b rs =
      ap (λ (y : Settings). open_records y (under t b) rs) s ∙ open_records_under t b (settings_at t 0) rs in
      ap (λ (v : Verdict). if_accepted v (opened_as t (state b rs vs)) (λ q. state b rs vs)) e
      ∙ ((λ z. state b (x z) (open_values (s z) (under t b) (x z) vs))
      ∙ ap (λ (y : List Float). state b (open_records (settings_at t 0) b rs) y) (open_values_under t b (settings_at t 0) (open_records (settings_at t 0) b rs) vs))
