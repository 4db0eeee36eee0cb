-- The entries that a scan of a map writes: their leaves, and the values that were read of these.
use Rattle.std.proofs.Common.{◌≡◌, ◌<◌, ◌≤◌, ◌⊎◌, inl, inr, ℕ, leb, ltb, false, ◌&&◌, List, [], ◌∷◌, ◌++◌, length, set, ◌+◌, refl, sym, ap, subst, ◌∙◌, arith}
use Rattle.std.specs.Prelude.{All, Some, None, Result, Ok, Err, IfOk, slice_index_or, take}
use Rattle.std.specs.List.{AllWithin}
use Rattle.std.proofs.lemmas.Bool.{cases_lt, lt-ltb, le-ltb, le-leb, lt-leb, and_from, and_left, and_right, cond-true, cond-false}
use Rattle.std.proofs.lemmas.List.{get_or-set_other, get_or-take, length-take-le, map-set, take_more_set}
use Rattle.std.proofs.lemmas.List.Elements.{All-append, All-cons, All-nil, All-same, All-weaker, AllWithin-more_set}
use Rattle.nm_edge.specs.Layouts.{IsLayout}
use Rattle.nm_edge.specs.declared.edge.Side.{Side}
use Rattle.nm_model.specs.declared.event.Event.TheVariants.{Leave}
use Rattle.nm_model.specs.declared.reply.Reply.TheVariants.{Departed}
use Rattle.nm_steps.specs.Rules.{value_of}
use Rattle.nm_steps.specs.Steps.{Continues, HasSeen, PassView, TakesStep}
use Rattle.nm_steps.specs.Values.{OnlySees}
use Rattle.nm_steps.proofs.Seeing.{continues_by, continues_then, seen_itself, stores_same}
use Rattle.nm_epoch.specs.Resting.{epochs}
use Rattle.nm_walks.specs.AddedLooks.{AddsLooks}
use Rattle.nm_walks.specs.Telling.{GoesOn}
use Rattle.nm_calls.specs.declared.fault.CallFault.{CallFault}
use Rattle.nm_calls.specs.declared.map_scanning.MapEntry.{MapEntry}
use Rattle.nm_calls.specs.declared.scanning.Scanned.{Scanned}
use Rattle.nm_calls.specs.declared.stretches.Stretch.{Stretch}
use Rattle.nm_calls.specs.MapScans.{EndsAt, HadEntries, HadEntry, HasReadEntry, IsLeafOf, keys_of, leaf_in, leaf_of}
use Rattle.nm_calls.specs.Scans.{IsStretch}
use Rattle.nm_walks.proofs.GoingOn.{goes_then}
use Rattle.nm_calls.proofs.Forks.{going_continues}
use Rattle.nm_calls.proofs.FoundValues.{leaf_within}
use Rattle.nm_calls.proofs.MapMoments.{mapped_later, value_was}
use Rattle.nm_calls.proofs.NearValues.{read_near}
use Rattle.nm_calls.proofs.PlainLooks.{ended_at_still, no_looks}

-- ---- the leaves at which walks have ended

pub leaves_still : {m : ℕ} (p q : PassView) → AddsLooks m p.view.log q.view.log → (es : List MapEntry)
    → All (IsLeafOf p) es → All (IsLeafOf q) es
leaves_still p q a es all = All-weaker (IsLeafOf p) (IsLeafOf q)
    (λ e is. (is.0, ended_at_still p q a e.key e.value is.1)) es all

module _ (side : Side) (end n : ℕ) (p : PassView) (d : Stretch) (w : IsStretch side end n p d)
    (null : d.next.slot ≡ 0) (leaf : ℕ) (hit : EndsAt p d leaf) where
  leaf_found : All (IsLeafOf p) (leaf_in d leaf)
  leaf_found = by (cases_lt d.found d.low) (cases_lt d.found d.high)
    where
      none : (leb d.low d.found && ltb d.found d.high) ≡ false → All (IsLeafOf p) (leaf_in d leaf)
      none out = All-same (IsLeafOf p) (leaf_in d leaf) []
          (cond-false (leb d.low d.found && ltb d.found d.high) (leaf_of d.found leaf ∷ []) [] out)
          (All-nil (IsLeafOf p))

      by : (d.found < d.low) ⊎ (d.low ≤ d.found) → (d.found < d.high) ⊎ (d.high ≤ d.found)
          → All (IsLeafOf p) (leaf_in d leaf)
      by (inl below) _ = none (and_left (leb d.low d.found) (ltb d.found d.high) (lt-leb d.low d.found below))
      by (inr above) (inr past) = none (and_right (leb d.low d.found) (ltb d.found d.high) (le-ltb d.found d.high past))
      by (inr above) (inl less) =
          let top = w.top in
          All-same (IsLeafOf p) (leaf_in d leaf) (leaf_of d.found leaf ∷ [])
          (cond-true (leb d.low d.found && ltb d.found d.high) (leaf_of d.found leaf ∷ []) []
          (and_from (leb d.low d.found) (ltb d.found d.high) (le-leb d.low d.found above)
          (lt-ltb d.found d.high less)))
          (All-cons (IsLeafOf p) (leaf_of d.found leaf) [] (omega (arith, less, top), hit null above less)
          (All-nil (IsLeafOf p)))

  -- with those before
  pub leaves_more : (old new : List MapEntry) → new ≡ old ++ leaf_in d leaf → All (IsLeafOf p) old
      → All (IsLeafOf p) new
  leaves_more old new grown all = All-same (IsLeafOf p) new (old ++ leaf_in d leaf) grown
      (All-append (IsLeafOf p) old (leaf_in d leaf) all leaf_found)

-- ---- one entry more

pub key_more : (entries : List MapEntry) (n k v : ℕ) → n < length (keys_of entries)
    → take (n + 1) (keys_of (set entries n (leaf_of k v))) ≡ take n (keys_of entries) ++ k ∷ []
key_more entries n k v less = ap (take (n + 1)) (map-set (λ (e : MapEntry). e.key) entries n (leaf_of k v))
    ∙ take_more_set (keys_of entries) n k less

-- ---- the value of a leaf is read

-- its slot fits into 32 bits
pub leaf_fits : (p : PassView) → IsLayout p.view.layout → HasSeen p.view → (e : MapEntry) → IsLeafOf p e
    → (1 ≤ e.value) × (e.value ≤ p.view.layout.nodes)
leaf_fits p fits seen e is =
    let within = leaf_within p fits seen e.key e.value is.0 is.1 in
    let high = within.0 in
    (omega (arith, high), within.1)

-- the value was read at m, by no step
pub entry_read : (p m : PassView) → OnlySees p m → IsLayout p.view.layout → GoesOn p m → (e : MapEntry) (v : ℕ)
    → IsLeafOf p e → v ≡ value_of m.view.stores e.value → HasReadEntry p m (leaf_of e.key v)
entry_read p m looks fits on e v is value = record {
  at = m;
  since = on;
  until = record {
    same = refl;
    past = seen_itself m;
    run = on.run;
    stores = stores_same m.view.stores m.view.stores
        refl;
  };
  is_key = is.0;
  read = read_near p m (ap (λ (x : PassView). x.view.log) looks.same)
      (subst (λ (x : PassView). IsLayout x.view.layout) (sym looks.same) fits) e.key e.value v is looks.seen value;
}

-- what was read stays, and was read after what was before
pub entry_later : (o p q : PassView) → Continues p q → (e : MapEntry) → HasReadEntry o p e → HasReadEntry o q e
entry_later o p q on e t = record {
  at = t.at;
  since = t.since;
  until = continues_then t.at p q t.until on;
  is_key =
      t.is_key;
  read = t.read;
}

pub entry_after : (o p q : PassView) → GoesOn o p → (e : MapEntry) → HasReadEntry p q e → HasReadEntry o q e
entry_after o p q on e t = record {
  at = t.at;
  since = goes_then o p t.at on t.since;
  until = t.until;
  is_key =
      t.is_key;
  read = t.read;
}

pub entries_after : (o p q : PassView) → GoesOn o p → (es : List MapEntry) (n : ℕ)
    → AllWithin (HasReadEntry p q) es 0 n → AllWithin (HasReadEntry o q) es 0 n
entries_after o p q on es n read k d low less = entry_after o p q on (slice_index_or es k d) (read k d low less)

-- ---- one after the other

module _ (o p q : PassView) (before : GoesOn o p) (on : GoesOn p q) (log : q.view.log ≡ p.view.log)
    (es : List MapEntry) (i n : ℕ) (below : i < length es) (e : MapEntry) (read : HasReadEntry p q e) where
  pub read_more : AllWithin (HasReadEntry o p) es 0 i → AllWithin (HasReadEntry o q) (set es i e) 0 (i + 1)
  read_more so_far = AllWithin-more_set es i e below (HasReadEntry o q)
      (λ k d low less. entry_later o p q (going_continues p q on) (slice_index_or es k d) (so_far k d low less))
      (entry_after o p q before e read)

  pub unread_still : AllWithin (IsLeafOf p) es i n → AllWithin (IsLeafOf q) (set es i e) (i + 1) n
  unread_still rest k d low less =
      subst (IsLeafOf q) (sym (get_or-set_other es i k e d (λ same. omega (arith, same, low))))
      (leaf_still (slice_index_or es k d) (rest k d (omega (arith, low)) less))
    where
      leaf_still : (x : MapEntry) → IsLeafOf p x → IsLeafOf q x
      leaf_still x is = (
        is.0,
        ended_at_still p q (subst (AddsLooks 0 p.view.log) (sym log) (no_looks p.view.log))
            x.key x.value is.1,
      )

pub all_unread : (p : PassView) (es : List MapEntry) (n : ℕ) → n ≤ length es → All (IsLeafOf p) (take n es)
    → AllWithin (IsLeafOf p) es 0 n
all_unread p es n fits all k d low less = subst (IsLeafOf p) (get_or-take n es k d less)
    (all k d (let long = length-take-le n es fits in omega (arith, long, less)))

-- ---- the moments in the call

-- the map had an entry that was read under the pin that a has taken after o
had_entry : (o a p q : PassView) → HasSeen o.view → IsLayout o.view.layout → (epochs o).pin ≡ None → Continues o a
    → TakesStep p q Leave Departed → (e : MapEntry) → HasReadEntry a p e → HadEntry o q e
had_entry o a p q seen fits unpinned pinning leaves e t =
    let m = t.at in
    let until = continues_then m p q t.until (continues_by p q Leave Departed leaves) in (
      m.view.stores,
      until.stores,
      mapped_later o.view.past m q until.same until.past.goes_on m.view.stores e.key
          (Some e.value) (value_was o a m seen fits unpinned pinning t.since e.key t.is_key e.value t.read),
    )

pub had_entries : (o a p q : PassView) → HasSeen o.view → IsLayout o.view.layout → (epochs o).pin ≡ None
    → Continues o a → TakesStep p q Leave Departed → (out : List MapEntry) (r : Result Scanned CallFault)
    → IfOk r (λ s. AllWithin (HasReadEntry a p) out 0 s.count) → HadEntries o q out r
had_entries o a p q seen fits unpinned pinning leaves out (Ok s) read = λ k d low less. had_entry o a p q seen fits
    unpinned pinning leaves (slice_index_or out k d) (read k d low less)
had_entries o a p q seen fits unpinned pinning leaves out (Err e) read = tt
