-- What the plain chart keeps of the chart that was opened. Assumes nothing.
use Rattle.std.specs.Prelude.{Ok, Err}
use mathlib.Core.Path.{◌≡◌, refl, sym, ap, ◌∙◌}
use mathlib.Core.List.{List, [], ◌∷◌, ◌++◌, map}
use Prim.Native.Nat.{ℕ, zero, suc, ◌+◌, ◌-◌, ◌*◌, ◌≤◌, ◌<◌}
use native.Mathlib.Decide.{dec_lt}
use native.Mathlib.Omega.{arith}
use lib.ListN.{length, take, drop, set, take-append-drop}
use lib.Seq.{length-take-le, take-take, take_at, drop_at, drop-drop}
use Rattle.num_tables.specs.Parts.{part}
use Rattle.num_tables.proofs.Rows.{take-drop}
use Rattle.chart_fields.specs.Limits.{header_size, nested_size, point_size}
use Rattle.chart_fields.specs.Objects.{Holds}
use Rattle.chart_fields.specs.declared.Layout.{Layout}
use Rattle.chart_opening.specs.Header.{layout_of}
use Rattle.chart_opening.specs.Conditions.{if_accepted}
use Rattle.chart_opening.specs.Accepted.{header_ok_lem}
use Rattle.chart_opening.specs.Verdict.{Verdict}
use Rattle.chart_opening.proofs.Header.{holds}
use Rattle.chart_replacing.specs.Replace.{object_bytes, put_object}
use Rattle.chart_replacing.specs.Accepted.{Taken}
use Rattle.chart_replacing.specs.Replaced as R
use Rattle.chart_inserting.specs.Insert.{insert_object, remove_object}
use Rattle.chart_inserting.specs.OneMore.{OneMore, count_bytes, setting_bytes, entry_bytes}
use Rattle.chart_inserting.specs.Accepted.{Inserted, Removed}
use Rattle.calls.specs.Simulation.{answers, after}
use Rattle.calls.specs.Tables.{length_of}
use Rattle.calls.specs.Afresh.{count}
use Rattle.calls.specs.Conditions.{Operation, replace, insert, remove, read_record, read_values, read_detail, figure, refusal}
use Rattle.calls.specs.Calls.{refused, Call, question, compute, plain}
use Rattle.calls.specs.Statement.{Edit, put, put_before, take_out, blocks_from, blocks, applied, applied_all, is_carried_out, with_edit, edits, Kept}
use Rattle.calls.proofs.Refusals.{accepted_replace, accepted_insert, accepted_remove}
use Rattle.calls.proofs.Replacing.{layout_same, count_same}
use Rattle.calls.proofs.Moving.{inserted_more, inserted_object, removed_more}

-- a part of what two lists begin with alike
part_kept : (p n m : ℕ) (x y : List ℕ) → p + n ≤ m → take m x ≡ take m y → part p n x ≡ part p n y
unfolding part
part_kept p n m x y h e =
    take-drop p n x ∙ (ap (drop p) (sym (take-take (p + n) m x h) ∙ (ap (take (p + n)) e ∙ take-take (p + n) m y h)) ∙ sym (take-drop p n y))

-- ---- The objects of a chart with one of them put anew

module _ (b b' : List ℕ) (k : ℕ) (o : List ℕ) (here : object_bytes b' k ≡ o) (elsewhere : (j : ℕ) → (j ≡ k → ⊥) → object_bytes b' j ≡ object_bytes b j) where
  behind : (j n : ℕ) → k < j → blocks_from b' j n ≡ blocks_from b j n
  unfolding blocks_from
  behind j zero h = refl
  behind j (suc n) h = λ t. elsewhere j (λ e. omega arith) t ∷ behind (suc j) n (omega arith) t

  from : (j n : ℕ) → j ≤ k → k < j + n → blocks_from b' j n ≡ set (blocks_from b j n) (k - j) o
  unfolding blocks_from
  from j zero h l = absurd (omega arith)
  from j (suc n) h l = go (λ m. from (suc j) n m (omega arith)) (dec_lt j k)
    where
      go : (suc j ≤ k → blocks_from b' (suc j) n ≡ set (blocks_from b (suc j) n) (k - suc j) o) → Dec (j < k)
          → object_bytes b' j ∷ blocks_from b' (suc j) n ≡ set (object_bytes b j ∷ blocks_from b (suc j) n) (k - j) o
      go rest (yes m) =
          let e : k - j ≡ suc (k - suc j) = omega arith in
          rw e ((λ t. elsewhere j (λ q. omega arith) t ∷ rest (omega arith) t))
      go rest (no m) =
          let e : k - j ≡ 0 = omega arith in
          let q : j ≡ k = omega arith in
          rw e ((λ t. (ap (object_bytes b') q ∙ here) t ∷ behind (suc j) n (omega arith) t))

module _ (k : ℕ) (o b : List ℕ) (a : Taken b k o) where
  held : Holds b (layout_of b)
  held = holds b (header_ok_lem b a.opens)

  blocks_put : blocks (put_object k o b) ≡ set (blocks b) k o
  unfolding blocks
  blocks_put =
      ap (blocks_from (put_object k o b) 0) (count_same k o b a)
      ∙ (from b (put_object k o b) k o (R.place_put b k o held a.below a.long) (R.place_kept b k o held a.below a.long) 0 (count b) (omega arith) (omega (arith, a.below))
      ∙ ap (λ (i : ℕ). set (blocks_from b 0 (count b)) i o) (omega arith))

  count_bytes_put : count_bytes (put_object k o b) ≡ count_bytes b
  unfolding count_bytes
  count_bytes_put = part_kept 4 12 header_size (put_object k o b) b (omega arith) (R.header_kept b k o held a.below a.long)

  setting_bytes_put : setting_bytes (put_object k o b) ≡ setting_bytes b
  unfolding setting_bytes
  setting_bytes_put = part_kept 28 52 header_size (put_object k o b) b (omega arith) (R.header_kept b k o held a.below a.long)

  entry_bytes_put : entry_bytes (put_object k o b) ≡ entry_bytes b
  unfolding entry_bytes part
  entry_bytes_put =
      ap (λ (lay : Layout). take (nested_size * lay.nested + point_size * lay.points) (drop lay.nested_at (put_object k o b))) (layout_same k o b a)
      ∙ ap (take (nested_size * (layout_of b).nested + point_size * (layout_of b).points)) (R.rest_kept b k o held a.below a.long)

  -- an accepted replacement, and then the rest of the list
  put_kept : (es : List Edit) (b' : List ℕ) → Kept (put_object k o b) es b' → Kept b (put k o ∷ es) b'
  unfolding applied_all applied
  put_kept es b' h =
      record {
        counts = h.counts ∙ count_bytes_put;
        settings = h.settings ∙ setting_bytes_put;
        objects = h.objects ∙ ap (applied_all es) blocks_put;
        entries = h.entries ∙ entry_bytes_put;
      }

-- ---- The objects of a chart with one more of them, at place k

module _ (k : ℕ) (b b' : List ℕ) (m : OneMore k b b') where
  moved_behind : (j n : ℕ) → k ≤ j → j + n ≤ count b → blocks_from b' (suc j) n ≡ blocks_from b j n
  unfolding blocks_from
  moved_behind j zero h l = refl
  moved_behind j (suc n) h l = λ t. m.later j h (omega arith) t ∷ moved_behind (suc j) n (omega arith) (omega arith) t

  more_last : (j n : ℕ) → j ≡ k → j + n ≡ count b
      → blocks_from b' j (suc n) ≡ take (k - j) (blocks_from b j n) ++ (object_bytes b' k ∷ drop (k - j) (blocks_from b j n))
  unfolding blocks_from
  more_last j n e c =
      let z : k - j ≡ 0 = omega arith in
      rw z (λ t. ap (object_bytes b') e t ∷ moved_behind j n (omega arith) (omega arith) t)

  more_from : (j n : ℕ) → j ≤ k → k ≤ j + n → j + n ≡ count b
      → blocks_from b' j (suc n) ≡ take (k - j) (blocks_from b j n) ++ (object_bytes b' k ∷ drop (k - j) (blocks_from b j n))
  unfolding blocks_from
  more_from j zero h l c = more_last j zero (omega arith) c
  more_from j (suc n) h l c = go (λ d. more_from (suc j) n d (omega arith) (omega arith)) (dec_lt j k)
    where
      go : (suc j ≤ k → blocks_from b' (suc j) (suc n) ≡ take (k - suc j) (blocks_from b (suc j) n) ++ (object_bytes b' k ∷ drop (k - suc j) (blocks_from b (suc j) n))) → Dec (j < k)
          → blocks_from b' j (suc (suc n)) ≡ take (k - j) (blocks_from b j (suc n)) ++ (object_bytes b' k ∷ drop (k - j) (blocks_from b j (suc n)))
      go rest (no d) = more_last j (suc n) (omega arith) c
      go rest (yes d) =
          let e : k - j ≡ suc (k - suc j) = omega arith in
          rw e (λ t. m.before j d t ∷ rest d t)

  pub blocks_more : blocks b' ≡ take k (blocks b) ++ (object_bytes b' k ∷ drop k (blocks b))
  unfolding blocks
  blocks_more =
      let z : k - 0 ≡ k = omega arith in
      ap (blocks_from b' 0) m.counts
      ∙ (more_from 0 (count b) (omega arith) (omega (arith, m.at)) (omega arith)
      ∙ ap (λ (i : ℕ). take i (blocks_from b 0 (count b)) ++ (object_bytes b' k ∷ drop i (blocks_from b 0 (count b)))) z)

  blocks_long : (j n : ℕ) → length (blocks_from b j n) ≡ n
  unfolding blocks_from
  blocks_long j zero = refl
  blocks_long j (suc n) = ap suc (blocks_long (suc j) n)

  all_long : length (blocks b) ≡ count b
  unfolding blocks
  all_long = blocks_long 0 (count b)

  -- taking it out again
  pub blocks_fewer : blocks b ≡ take k (blocks b') ++ drop (suc k) (blocks b')
  blocks_fewer =
      let x = take k (blocks b) in
      let y = drop k (blocks b) in
      let l : length x ≡ k = length-take-le k (blocks b) (omega (arith, all_long, m.at)) in
      let s : suc k ≡ k + 1 = omega arith in
      sym (take-append-drop k (blocks b))
      ∙ (λ t. sym (ap (take k) blocks_more ∙ take_at x (object_bytes b' k ∷ y) k l) t
      ++ sym (ap (λ (n : ℕ). drop n (blocks b')) s ∙ (sym (drop-drop 1 k (blocks b')) ∙ ap (drop 1) (ap (drop k) blocks_more ∙ drop_at x (object_bytes b' k ∷ y) k l))) t)

-- an accepted insertion, and then the rest of the list
put_before_kept : (k : ℕ) (o b : List ℕ) → Inserted b k o → (es : List Edit) (b' : List ℕ) → Kept (insert_object k o b) es b' → Kept b (put_before k o ∷ es) b'
unfolding applied_all applied
put_before_kept k o b a es b' h =
    let m = inserted_more b k o a in
    record {
      counts = h.counts ∙ m.count_bytes_lem;
      settings = h.settings ∙ m.setting_bytes_lem;
      objects = h.objects
          ∙ ap (applied_all es) (blocks_more k b (insert_object k o b) m ∙ ap (λ (x : List ℕ). take k (blocks b) ++ (x ∷ drop k (blocks b))) (inserted_object b k o a));
      entries = h.entries ∙ m.entry_bytes_lem;
    }

-- an accepted removal, and then the rest of the list
take_out_kept : (k : ℕ) (b : List ℕ) → Removed b k → (es : List Edit) (b' : List ℕ) → Kept (remove_object k b) es b' → Kept b (take_out k ∷ es) b'
unfolding applied_all applied
take_out_kept k b a es b' h =
    let m = removed_more b k a in
    record {
      counts = h.counts ∙ sym m.count_bytes_lem;
      settings = h.settings ∙ sym m.setting_bytes_lem;
      objects = h.objects ∙ ap (applied_all es) (blocks_fewer k (remove_object k b) b m);
      entries = h.entries ∙ sym m.entry_bytes_lem;
    }

-- any call, and then the rest of the list
call_kept : (a : Operation) (r v : ℕ) (b : List ℕ) (q : Verdict) → refusal a r v b ≡ q → (es : List Edit) (b' : List ℕ)
    → Kept (if_accepted q (compute a b) (λ x. (refused x, b))).1 es b'
    → Kept b (with_edit a (if_accepted q (compute a b) (λ x. (refused x, b))).0 es) b'
unfolding if_accepted compute with_edit is_carried_out
call_kept (replace k o) r v b (Ok tt) e es b' h = put_kept k o b (accepted_replace k o r v b e).0 es b' h
call_kept (replace k o) r v b (Err x) e es b' h = h
call_kept (insert k o) r v b (Ok tt) e es b' h = put_before_kept k o b (accepted_insert k o r v b e).0 es b' h
call_kept (insert k o) r v b (Err x) e es b' h = h
call_kept (remove k) r v b (Ok tt) e es b' h = take_out_kept k b (accepted_remove k r v b e).0 es b' h
call_kept (remove k) r v b (Err x) e es b' h = h
call_kept (read_record k) r v b (Ok tt) e es b' h = h
call_kept (read_record k) r v b (Err x) e es b' h = h
call_kept (read_values k) r v b (Ok tt) e es b' h = h
call_kept (read_values k) r v b (Err x) e es b' h = h
call_kept (read_detail d k) r v b (Ok tt) e es b' h = h
call_kept (read_detail d k) r v b (Err x) e es b' h = h
call_kept (figure f l) r v b (Ok tt) e es b' h = h
call_kept (figure f l) r v b (Err x) e es b' h = h

none_kept : (b : List ℕ) → Kept b [] b
unfolding applied_all
none_kept b = record { counts = refl; settings = refl; objects = refl; entries = refl }

pub plain_kept : (r v : ℕ) (cs : List Call) (b : List ℕ) → Kept b (edits cs (answers plain (map (question r v) cs) b)) (after plain (map (question r v) cs) b)
unfolding answers after edits plain question
plain_kept r v [] b = none_kept b
plain_kept r v (c ∷ cs) b =
    call_kept c.operation (length_of c.records r) (length_of c.values v) b
    (refusal c.operation (length_of c.records r) (length_of c.values v) b) refl
    (edits cs (answers plain (map (question r v) cs) (plain (question r v c) b).1)) (after plain (map (question r v) cs) (plain (question r v c) b).1)
    (plain_kept r v cs (plain (question r v c) b).1)
