-- What a look teaches of the walks of a call: each is a lemma on a list of arrivals, said of the
-- log that ends with the look.
use Rattle.std.proofs.Common.{◌≡◌, ◌≢◌, ℕ, ◌≤◌, Bool, true, false, List, [], ◌∷◌, ◌++◌, refl, sym, ap, subst, ◌∙◌, arith}
use Rattle.std.specs.Prelude.{Some, IsSome, Contains}
use Rattle.nm_edge.specs.Layouts.{Layout}
use Rattle.nm_edge.specs.declared.edge.Side.{Side}
use Rattle.nm_edge.specs.declared.edge.Side.TheVariants.{Left}
use Rattle.nm_model.specs.declared.event.Field.{Field}
use Rattle.nm_model.specs.declared.event.Field.TheVariants.{Key, Edge as EdgeOn}
use Rattle.nm_model.specs.declared.event.Event.TheVariants.{Look}
use Rattle.nm_model.specs.declared.reply.Reply.{Reply}
use Rattle.nm_model.specs.declared.reply.Reply.TheVariants.{KeyIs, EdgeIs}
use Rattle.nm_model.specs.declared.arrivals.Call.{Call}
use Rattle.nm_model.specs.declared.arrivals.Arrival.{Arrival}
use Rattle.nm_model.specs.Runs.{reply_of}
use Rattle.nm_model.specs.Searches.{Search, idle, side_of, walked, searched}
use Rattle.nm_model.specs.Walks.{Entry, search_after, since_pin}
use Rattle.nm_order.specs.WalksToArrivals.{HasArrival}
use Rattle.nm_order.specs.Facts.{Since, Arrived, arrivals}
use Rattle.nm_order.specs.Facts.Since.{ThePin, TheFlag}
use Rattle.nm_order.specs.Facts.Fact.{ReadKey}
use Rattle.nm_order.specs.Told.{OfEachEntry}
use Rattle.nm_order.specs.Taught.{WalksBegin, WalksLearnKeys, WalksGoOn, WalksEnd}
use Rattle.nm_order.proofs.ArrivalsOfLooks.{key_read, end_read, first_read, next_read}
use Rattle.nm_order.proofs.WalksAfter.{walks_after}
use Rattle.nm_order.proofs.SearchesOfLogs.{later_by, adds, has_flag, no_flag, knows_log}
use Rattle.nm_order.proofs.LastEntries.{LastEntry, last_entry, search_more}
use Rattle.nm_order.proofs.ToldLaws.{true_then, key_told}

-- ---- the lists that take a look

-- the walks since the flag take looks once a flag was won
abbrev Takes : Search → Since → Type 0
Takes s ThePin = Unit {0}
Takes s TheFlag = IsSome s.flagged

-- under a call, such a list is walked by its key
looked : (s : Search) (call : Call) (since : Since) (x : ℕ) (f : Field) (r : Reply) → s.call ≡ Some call
    → Takes s since → arrivals (searched s (Look x f) r) since ≡ walked call.key (arrivals s since) x f r
looked s call ThePin x f r is takes = (adds s call (Look x f) r refl is).walks
looked s call TheFlag x f r is takes = (adds s call (Look x f) r refl is).later
    ∙ ap (λ (b : Bool). later_by b call.key s.later (Look x f, r)) takes

not_empty : (ws : List Arrival) (a : Arrival) → Contains ws a → ws ≢ []
not_empty ws a there is = let lt = (subst (λ (xs : List Arrival). Contains xs a) is there).1 in
    absurd (omega (arith, lt))

-- a list in which a walk has come somewhere does: behind no flag the later list is empty
takes_by : (log : List Entry) (since : Since) {k x parent : ℕ} {side : Side}
    → Arrived (search_after idle log) since k x parent side → Takes (search_after idle log) since
takes_by log ThePin a = tt
takes_by log TheFlag a = by (has_flag (since_pin [] log)) refl
  where
    by : (b : Bool) → has_flag (since_pin [] log) ≡ b → IsSome (search_after idle log).flagged
    by true has = (knows_log log a.call a.is_call).flagged ∙ has
    by false none = absurd (not_empty (search_after idle log).later a.arrival a.among
        ((knows_log log a.call a.is_call).later ∙ ap (walks_after a.call.key []) (no_flag (since_pin [] log) none)))

-- ---- between a fact of a walk and an arrival in a list

listed : {s : Search} {since : Since} {k x parent : ℕ} {side : Side} (a : Arrived s since k x parent side)
    (P : Arrival → Type 0) → P a.arrival → HasArrival (arrivals s since) x parent side P
listed a P holds = record {
  arrival = a.arrival;
  there = a.among;
  at_slot = a.is_slot;
  by_parent = a.is_parent;
  on_side = a.is_side;
  holds = holds;
}

-- a walk came to a slot, and P holds of its arrival there
abbrev CameWith : Search → Since → ℕ → ℕ → ℕ → Side → (Arrival → Type 0) → Type 0
CameWith s since k x parent side P = (a : Arrived s since k x parent side) × P a.arrival

-- an arrival of the list that took the look is one of the log with the look
behind_look : (log : List Entry) (entry : Entry) (since : Since) (call : Call) (x : ℕ) (f : Field) (r : Reply)
    → entry ≡ (Look x f, r) → (search_after idle log).call ≡ Some call → Takes (search_after idle log) since
    → (k slot parent : ℕ) (side : Side) (P : Arrival → Type 0) → call.key ≡ k
    → HasArrival (walked k (arrivals (search_after idle log) since) x f r) slot parent side P
    → CameWith (search_after idle (log ++ entry ∷ [])) since k slot parent side P
behind_look log entry since call x f r entry_is called takes k slot parent side P is_for h =
    subst (λ (s : Search). CameWith s since k slot parent side P)
    (ap (λ (y : Entry). searched (search_after idle log) y.0 y.1) (sym entry_is) ∙ sym (search_more idle log entry)) (
      record {
        call = call;
        is_call = (adds (search_after idle log) call (Look x f) r refl called).same;
        is_for = is_for;
        arrival = h.arrival;
        among = subst (λ (ws : List Arrival). Contains ws h.arrival) (sym same) h.there;
        is_slot = h.at_slot;
        is_parent = h.by_parent;
        is_side = h.on_side;
      },
      h.holds,
    )
  where
    same : arrivals (searched (search_after idle log) (Look x f) r) since
        ≡ walked k (arrivals (search_after idle log) since) x f r
    same = looked (search_after idle log) call since x f r called takes
        ∙ ap (λ (n : ℕ). walked n (arrivals (search_after idle log) since) x f r) is_for

-- and so where a walk had come somewhere before, which tells that its list takes the look
behind_walk : (log : List Entry) (entry : Entry) (since : Since) (x : ℕ) (f : Field) (r : Reply)
    → entry ≡ (Look x f, r) → {k y over : ℕ} {turn : Side} → Arrived (search_after idle log) since k y over turn
    → (slot parent : ℕ) (side : Side) (P : Arrival → Type 0)
    → HasArrival (walked k (arrivals (search_after idle log) since) x f r) slot parent side P
    → CameWith (search_after idle (log ++ entry ∷ [])) since k slot parent side P
behind_walk log entry since x f r entry_is {k = k} a slot parent side P h = behind_look log entry since a.call x f r
    entry_is a.is_call (takes_by log since a) k slot parent side P a.is_for h

-- ---- a walk begins, goes on and ends

pub walks_begin : OfEachEntry WalksBegin
walks_begin L enough w log entry l ThePin k e walks is leads =
    (behind_look log entry ThePin (record { op = walks.0; key = k }) 2 (EdgeOn Left) (EdgeIs e) is walks.1 tt k
    e.slot 2 Left (λ a. Unit {0}) refl (first_read k (search_after idle log).walks e.slot leads)).0
walks_begin L enough w log entry l TheFlag k e walks is leads =
    (behind_look log entry TheFlag (record { op = walks.0; key = k }) 2 (EdgeOn Left) (EdgeIs e) is walks.1 walks.2 k
    e.slot 2 Left (λ a. Unit {0}) refl (first_read k (search_after idle log).later e.slot leads)).0

pub walks_go_on : OfEachEntry WalksGoOn
walks_go_on L enough w log entry l since k x parent v side e holds is leads =
    (behind_walk log entry since x (EdgeOn (side_of k v)) (EdgeIs e) is holds.0 e.slot x (side_of k v) (λ a. Unit {0})
    (next_read k v (arrivals (search_after idle log) since) e.slot leads
    (listed holds.0 (λ a. a.key ≡ Some v) holds.1))).0

pub walks_end : OfEachEntry WalksEnd
walks_end L enough w log entry l since k x parent v side e holds is null =
    let h = behind_walk log entry since x (EdgeOn (side_of k v)) (EdgeIs e) is holds.0 x parent side
    (λ a. (a.key ≡ Some v) × (a.ended ≡ true))
    (end_read k v (arrivals (search_after idle log) since) e.slot null
    (listed holds.0 (λ a. a.key ≡ Some v) holds.1)) in
    (h.0, h.1.0, h.1.1)

-- ---- a walk reads a key

module _ (L : Layout) (enough : 5 ≤ L.nodes) (w : ℕ) (log : List Entry) (entry : Entry)
    (last : LastEntry L w log entry) where
  -- an arrival at the slot that has a key has the one that is answered: both are the node's
  key_agrees : (x v : ℕ) → entry ≡ (Look x Key, KeyIs v) → (since : Since) {k y over : ℕ} {turn : Side}
      → Arrived (search_after idle log) since k y over turn
      → (b : Arrival) → Contains (arrivals (search_after idle log) since) b → b.slot ≡ x → (n : ℕ) → b.key ≡ Some n
      → n ≡ v
  key_agrees x v is since {k = k} a b there at n key = sym
      (true_then L enough w log entry last (ReadKey since k x b.parent b.side n) (
        record {
          call = a.call;
          is_call = a.is_call;
          is_for = a.is_for;
          arrival = b;
          among = there;
          is_slot = at;
          is_parent = refl;
          is_side = refl;
        },
        key,
      ))
      ∙ sym (key_told last.before.state last.by x v (subst
      (λ (y : Entry). reply_of last.before.state last.by y.0 ≡ y.1) is last.replied))

pub walks_learn_keys : OfEachEntry WalksLearnKeys
walks_learn_keys L enough w log entry l since k x parent v side came is = behind_walk log entry since x Key (KeyIs v)
    is came x parent side (λ a. a.key ≡ Some v)
    (key_read (arrivals (search_after idle log) since) v
    (key_agrees L enough w log entry (last_entry L enough w log entry l) x v is since came)
    (listed came (λ a. Unit {0}) tt))
