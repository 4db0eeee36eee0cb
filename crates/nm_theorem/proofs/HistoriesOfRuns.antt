-- Each ordered run has a history by its turns alone: the call of a worker's pin is what its turns
-- tell.
use Rattle.std.proofs.Common.{◌≡◌, ℕ, zero, suc, ◌+◌, ◌<◌, ◌≤◌, ◌==◌, inl, inr, Bool, true, false, cond, ◌||◌, List, [], ◌∷◌, ◌++◌, length, append-nil, append_assoc, length-append, refl, sym, ap, subst, ◌∙◌, arith, true≢false}
use Rattle.std.specs.Prelude.{Option, Some, None, nat_le, map, filter, slice_index_or, unwrap_or, Result, Ok, Err, All, AllPairs, Contains}
use Rattle.std.specs.List.{list_any}
use Rattle.std.proofs.lemmas.Bool.{cond-true, cond-false, eq-eqb, le-leb, lt-leb}
use Rattle.std.proofs.lemmas.Option.{none-some, same_Some}
use Rattle.std.proofs.lemmas.List.Elements.{Contains-append_right}
use Rattle.nm_edge.specs.Layouts.{Layout, IsLayout}
use Rattle.nm_edge.specs.declared.edge.Side.{Side}
use Rattle.nm_edge.specs.declared.node.NodeId.{NodeId}
use Rattle.nm_model.specs.declared.event.Op.{Op}
use Rattle.nm_model.specs.declared.event.Op.TheVariants.{Insert, Delete}
use Rattle.nm_model.specs.declared.event.Event.{Event}
use Rattle.nm_model.specs.declared.event.Event.TheVariants.{Sight, SightFor, Leave, LeaveWith, Link, Flag, Splice}
use Rattle.nm_model.specs.declared.reply.Reply.{Reply}
use Rattle.nm_model.specs.declared.reply.Reply.TheVariants.{Pinned, Departed, Linked, Flagged, Cut}
use Rattle.nm_model.specs.declared.reply.Refused.{Refused}
use Rattle.nm_model.specs.declared.trace.Turn.{Turn}
use Rattle.nm_model.specs.declared.arrivals.Call.{Call}
use Rattle.nm_model.specs.Memory.{Memory}
use Rattle.nm_model.specs.Searches.{Search, searched, idle}
use Rattle.nm_model.specs.Walks.{Entry, logged_by, log_of, begins_anew}
use Rattle.nm_model.specs.Ordered.{Configuration, HasKey, ordered, search_of, next_in, outcome_in, after_in, trace_in}
use Rattle.nm_model.proofs.Numbers.{repeated}
use Rattle.nm_laws.proofs.SearchesGrow.{only_grow}
use Rattle.nm_model.specs.Acts.{InSet, Act, IsAmong, HasInARow, leaf_keys, Replays, nothing}
use Rattle.nm_order.specs.Removals.{is_splice}
use Rattle.nm_order.specs.Intervals.{IsCalled}
use Rattle.nm_order.specs.Exchanges.{MayAnswer, HasFlagged as LawHasFlagged}
use Rattle.nm_order.specs.Logs.{IsLogOf}
use Rattle.nm_order.specs.History.{EachOnce, InOrderOfMoments, IsDeleteOf, last_anew, pin_of, LeadsTo, IsRunHistory as LawIsHistory, IsActOfRun as LawIsAct, HasActOfCall as LawHasAct}
use Rattle.nm_order.specs.History.IsActOfRun.{IsAnswered as LawAnswered, IsPending as LawPending}
use Rattle.nm_order.proofs.OrderedLaws.{IsOrdered, ordered_next, each_ordered, each_link_inserts}
use Rattle.nm_order.proofs.OwnTurns.{own_search, OwnTurn, own_turn}
use Rattle.nm_order.proofs.OwnTurns.OwnTurn.{Quiet, Own}
use Rattle.nm_order.proofs.RunExchanges.{first_keys, is_own_call, opening_ordered}
use Rattle.nm_order.proofs.RunMoments.{entries}
use Rattle.nm_order.proofs.WalksOfRuns.{trace_in-append}
use Rattle.nm_order.proofs.HistoryLaws.{each_run_has_a_history}
use Rattle.nm_order.proofs.RealTime.{begins_with, none_sooner}
use Rattle.nm_order.proofs.PinNumbers.{length_trace}
use Rattle.nm_model.specs.Headline.{words_after, slots_of}
use Rattle.nm_model.specs.Histories.{Called, called_in, call_by, call_after, call_begun, IsAct, HasAct, IsInCall, HasFlaggedOneOf, IsHistory, HasHistory}
use Rattle.nm_model.specs.Histories.IsAct.{IsAnswered, IsPending}
use Rattle.nm_theorem.specs.EachRun.{IsPartOfTurns}
use Rattle.nm_theorem.proofs.Runs.{Parts, parts_of, Head, head_of, told_in, enough_of}
use Rattle.nm_theorem.proofs.HeadlineOfRuns.{headline}
use Rattle.nm_theorem.proofs.WrittenWords.{run_words}

-- ---- one turn

-- the call of a search, with the number of the turn that confirmed its pin
abbrev pub with_pin : ℕ → Option Call → Option Called
with_pin l None = None
with_pin l (Some c) = Some (record { pin = l; op = c.op; key = c.key })

call_refused : (n : ℕ) (so : Option Called) (e : Event) (q : Refused) → call_by n so e (Err q) ≡ so
call_refused n so Sight q = refl
call_refused n so (SightFor op key) q = refl
call_refused n so Leave q = refl
call_refused n so (LeaveWith answer) q = refl
call_refused n so e q = refl

call_kept : (n : ℕ) (so : Option Called) (e : Event) (r : Reply) → begins_anew (e, r) ≡ false
    → call_by n so e (Ok r) ≡ so
call_kept n so Sight (Pinned m) none = absurd (true≢false none)
call_kept n so (SightFor op key) (Pinned m) none = absurd (true≢false none)
call_kept n so Leave Departed none = absurd (true≢false none)
call_kept n so (LeaveWith answer) Departed none = absurd (true≢false none)
call_kept n so e r none = refl

call_anew : (n : ℕ) (so : Option Called) (S : Search) (e : Event) (r : Reply) → begins_anew (e, r) ≡ true
    → call_by n so e (Ok r) ≡ with_pin n (searched S e r).call
unfolding searched
call_anew n so S Sight (Pinned m) anew = refl
call_anew n so S (SightFor op key) (Pinned m) anew = refl
call_anew n so S Leave Departed anew = refl
call_anew n so S (LeaveWith answer) Departed anew = refl
call_anew n so S e r anew = absurd (true≢false (sym anew))

-- an allowed turn of the worker
call_own : (n l : ℕ) (S : Search) (e : Event) (r : Reply)
    → call_by n (with_pin l S.call) e (Ok r) ≡ with_pin (cond (begins_anew (e, r)) n l) (searched S e r).call
call_own n l S e r = go (begins_anew (e, r)) refl
  where
    go : (b : Bool) → begins_anew (e, r) ≡ b → call_by n (with_pin l S.call) e (Ok r)
        ≡ with_pin (cond b n l) (searched S e r).call
    go true anew = call_anew n (with_pin l S.call) S e r anew
    go false none = call_kept n (with_pin l S.call) e r none ∙ ap (with_pin l) (sym (only_grow S e r none).call)

-- a turn that enters no log of the worker
call_quiet : (n : ℕ) (so : Option Called) (w : ℕ) (t : Turn) → cond (t.worker == w) (logged_by t) [] ≡ []
    → cond (t.worker == w) (call_by n so t.event t.outcome) so ≡ so
call_quiet n so w t none = go (t.worker == w) t.outcome none
  where
    filled : (x : Entry) → ◌≡◌ {A = List Entry} (x ∷ []) [] → ⊥
    filled x e = cc

    go : (b : Bool) (o : Result Reply Refused) → cond b
        (logged_by (record { worker = t.worker; event = t.event; outcome = o })) [] ≡ []
        → cond b (call_by n so t.event o) so ≡ so
    go false o none = refl
    go true (Err q) none = call_refused n so t.event q
    go true (Ok r) none = absurd (filled (t.event, r) none)

-- ---- runs

module _ (L : Layout) (enough : 5 ≤ L.nodes) (w : ℕ) where
  turn_call : (c : Configuration) → IsOrdered L c → (t : ℕ × Event) (n l : ℕ)
      → cond (t.0 == w) (call_by n (with_pin l (own_search c w).call) t.1 (outcome_in c t))
      (with_pin l (own_search c w).call)
      ≡ with_pin (cond (list_any begins_anew (log_of w (told_in c t ∷ []))) n l) (own_search (next_in c t) w).call
  turn_call c o t n l = by (own_turn L w c t o)
    where
      so : Option Called
      so = with_pin l (own_search c w).call

      any : (es : List Entry) → entries w c t ≡ es → list_any begins_anew (log_of w (told_in c t ∷ []))
          ≡ list_any begins_anew es
      any es is = ap (list_any begins_anew) (append-nil (entries w c t) ∙ is)

      alone : (b : Bool) → (b || false) ≡ b
      alone true = refl
      alone false = refl

      by : OwnTurn w c t → cond (t.0 == w) (call_by n (with_pin l (own_search c w).call) t.1 (outcome_in c t))
          (with_pin l (own_search c w).call)
          ≡ with_pin (cond (list_any begins_anew (log_of w (told_in c t ∷ []))) n l) (own_search (next_in c t) w).call
      by (Quiet same none) = call_quiet n (with_pin l (own_search c w).call) w (told_in c t) none
          ∙ (λ i. with_pin (cond (sym (any [] none) i) n l) (sym same i).call)
      by (Own r is won here learned order) =
          (λ i. cond (eq-eqb t.0 w is i) (call_by n (with_pin l (own_search c w).call) t.1 (won i))
          (with_pin l (own_search c w).call))
          ∙ (call_own n l (own_search c w) t.1 r ∙ (λ i. with_pin
          (cond (sym (any ((t.1, r) ∷ []) here ∙ alone (begins_anew (t.1, r))) i) n l) (sym learned i).call))

  calls_from : (ts : List (ℕ × Event)) → All (λ t. HasKey t.1) ts → (c : Configuration) → IsOrdered L c → (n l : ℕ)
      → call_after w n (with_pin l (own_search c w).call) (trace_in c ts)
      ≡ with_pin (last_anew w l n (trace_in c ts)) (own_search (after_in c ts) w).call
  unfolding after_in trace_in
  calls_from [] keys c o n l = refl
  calls_from (t ∷ ts) keys c o n l = ap (λ (x : Option Called). call_after w (n + 1) x (trace_in (next_in c t) ts))
      (turn_call c o t n l)
      ∙ calls_from ts (λ k d below. keys (suc k) d (omega (arith, below))) (next_in c t)
      (ordered_next L enough c t (keys 0 t (omega arith)) o) (n + 1)
      (cond (list_any begins_anew (log_of w (told_in c t ∷ []))) n l)

  none_first : (own_search (ordered L) w).call ≡ None
  none_first = ap (λ (S : Search). S.call) (repeated L.workers w idle)

  -- the call that a run leaves a worker in is what its turns tell
  pub call_is : (ts : List (ℕ × Event)) → All (λ t. HasKey t.1) ts
      → call_begun w (trace_in (ordered L) ts) ≡ with_pin (pin_of L ts w) (own_search (after_in (ordered L) ts) w).call
  call_is ts keys = ap (λ (x : Option Call). call_after w 0 (with_pin 0 x) (trace_in (ordered L) ts))
      (sym none_first) ∙ calls_from ts keys (ordered L) (opening_ordered L enough) 0 0

  -- so a call that is told is one, and the other way round
  pub is_called : (ts : List (ℕ × Event)) → All (λ t. HasKey t.1) ts → (op : Op) (k : ℕ)
      → IsCalled (after_in (ordered L) ts) w op k → call_begun w (trace_in (ordered L) ts)
      ≡ Some (record { pin = pin_of L ts w; op = op; key = k })
  is_called ts keys op k called = call_is ts keys ∙ ap (with_pin (pin_of L ts w))
      (is_own_call (after_in (ordered L) ts) w op k called)

  pub called_is : (ts : List (ℕ × Event)) → All (λ t. HasKey t.1) ts → (c : Called)
      → call_begun w (trace_in (ordered L) ts) ≡ Some c
      → (c.pin ≡ pin_of L ts w) × IsCalled (after_in (ordered L) ts) w c.op c.key
  called_is ts keys c is = go (own_search (after_in (ordered L) ts) w).call refl (sym (call_is ts keys) ∙ is)
    where
      o : IsOrdered L (after_in (ordered L) ts)
      o = each_ordered L enough ts keys

      go : (x : Option Call) → (own_search (after_in (ordered L) ts) w).call ≡ x
          → with_pin (pin_of L ts w) x ≡ Some c → (c.pin ≡ pin_of L ts w)
          × IsCalled (after_in (ordered L) ts) w c.op c.key
      go None call none = absurd (none-some c none)
      go (Some d) call told =
          let same : record { pin = pin_of L ts w; op = d.op; key = d.key } ≡ c = same_Some _ c told in (
            ap (λ (y : Called). y.pin) (sym same),
            record {
              searches = o.searches;
              are = o.are;
              is_call = ap (λ (l : Option (List Search)). (search_of (unwrap_or l []) w).call) (sym o.are)
                  ∙ (call ∙ ap (λ (y : Called). Some (record { op = y.op; key = y.key })) same);
            },
          )

-- ---- the history

all_later : (acts : List Act) (m : ℕ) (quiet : Bool) → InOrderOfMoments m quiet acts → (j : ℕ) (d : Act)
    → j < length acts → m ≤ (slice_index_or acts j d).moment
all_later [] m quiet up j d below = absurd (omega (arith, below))
all_later (a ∷ acts) m quiet up zero d below = none_sooner m quiet a up.0
all_later (a ∷ acts) m quiet up (suc j) d below = let first = none_sooner m quiet a up.0 in
    let rest = all_later acts a.moment _ up.1 j d (omega (arith, below)) in omega (arith, first, rest)

acts_in_order : (acts : List Act) (m : ℕ) (quiet : Bool) → InOrderOfMoments m quiet acts
    → AllPairs (λ (a b : Act). a.moment ≤ b.moment) acts
acts_in_order [] m quiet up i j d less below = absurd (omega (arith, below))
acts_in_order (a ∷ acts) m quiet up zero zero d less below = absurd (omega (arith, less))
acts_in_order (a ∷ acts) m quiet up zero (suc j) d less below = all_later acts a.moment _ up.1 j d
    (omega (arith, below))
acts_in_order (a ∷ acts) m quiet up (suc i) zero d less below = absurd (omega (arith, less))
acts_in_order (a ∷ acts) m quiet up (suc i) (suc j) d less below = acts_in_order acts a.moment _ up.1 i j d
    (omega (arith, less)) (omega (arith, below))

among_at : (acts : List Act) (j : ℕ) (d : Act) → j < length acts → IsAmong acts (slice_index_or acts j d)
among_at [] j d below = absurd (omega (arith, below))
among_at (a ∷ acts) zero d below = inl refl
among_at (a ∷ acts) (suc j) d below = inr (among_at acts j d (omega (arith, below)))

each_once : (acts : List Act) → EachOnce acts → AllPairs (λ (a b : Act). (a.worker ≡ b.worker) × (a.pin ≡ b.pin) → ⊥)
    acts
each_once [] once i j d less below same = absurd (omega (arith, below))
each_once (a ∷ acts) once zero zero d less below same = absurd (omega (arith, less))
each_once (a ∷ acts) once zero (suc j) d less below same = once.0 (slice_index_or acts j d)
    (among_at acts j d (omega (arith, below))) same
each_once (a ∷ acts) once (suc i) zero d less below same = absurd (omega (arith, less))
each_once (a ∷ acts) once (suc i) (suc j) d less below same = each_once acts once.1 i j d (omega (arith, less))
    (omega (arith, below)) same

-- the acts up to a moment, where those behind are none_sooner
abbrev up_to : ℕ → List Act → List Act
up_to m acts = filter (λ (a : Act). nat_le a.moment m) acts

none_up : (m : ℕ) (acts : List Act) → ((a : Act) → IsAmong acts a → m < a.moment) → up_to m acts ≡ []
none_up m [] beyond = refl
none_up m (a ∷ acts) beyond = cond-false (nat_le a.moment m) (a ∷ up_to m acts) (up_to m acts)
    (lt-leb a.moment m (beyond a (inl refl))) ∙ none_up m acts (λ b there. beyond b (inr there))

first_up : (m : ℕ) (first last : List Act) → ((a : Act) → IsAmong first a → a.moment ≤ m)
    → ((a : Act) → IsAmong last a → m < a.moment) → up_to m (first ++ last) ≡ first
first_up m [] last so_far beyond = none_up m last beyond
first_up m (a ∷ first) last so_far beyond = cond-true (nat_le a.moment m) (a ∷ up_to m (first ++ last))
    (up_to m (first ++ last)) (le-leb a.moment m (so_far a (inl refl)))
    ∙ ap (λ (l : List Act). a ∷ l) (first_up m first last (λ b there. so_far b (inr there)) beyond)

leads_up : (acts : List Act) (m : ℕ) (S : ℕ → Type 0) → LeadsTo acts m S → Replays nothing (up_to m acts) S
leads_up acts m S l = subst (λ (first : List Act). Replays nothing first S)
    (sym (ap (up_to m) l.are ∙ first_up m l.first l.later l.so_far l.beyond)) l.replays

among_row : (front row back : List Act) (a : Act) → IsAmong row a → IsAmong (front ++ (row ++ back)) a
among_row [] [] back a there = absurd there
among_row [] (b ∷ row) back a (inl is) = inl is
among_row [] (b ∷ row) back a (inr there) = inr (among_row [] row back a there)
among_row (b ∷ front) row back a there = inr (among_row front row back a there)

-- ---- a call that began before a moment and is answered behind it

kept_call : (n : ℕ) (so : Option Called) (e : Event) (o : Result Reply Refused) (c : Called)
    → call_by n so e o ≡ Some c → c.pin < n → so ≡ Some c
kept_call n so Sight (Ok (Pinned m)) c is less = absurd (none-some c is)
kept_call n so (SightFor op key) (Ok (Pinned m)) c is less = absurd
    (let e = ap (λ (d : Called). d.pin) (same_Some (record { pin = n; op = op; key = key }) c is) in
    omega (arith, e, less))
kept_call n so Leave (Ok Departed) c is less = absurd (none-some c is)
kept_call n so (LeaveWith answer) (Ok Departed) c is less = absurd (none-some c is)
kept_call n so e o c is less = is

kept_calls : (w n : ℕ) (so : Option Called) (ts : List Turn) (c : Called) → call_after w n so ts ≡ Some c → c.pin < n
    → so ≡ Some c
kept_calls w n so [] c is less = is
kept_calls w n so (t ∷ ts) c is less = go (t.worker == w)
    (kept_calls w (n + 1) (cond (t.worker == w) (call_by n so t.event t.outcome) so) ts c is (omega (arith, less)))
  where
    go : (b : Bool) → cond b (call_by n so t.event t.outcome) so ≡ Some c → so ≡ Some c
    go true x = kept_call n so t.event t.outcome c x less
    go false x = x

pub call_join : (w n : ℕ) (so : Option Called) (xs ys : List Turn)
    → call_after w n so (xs ++ ys) ≡ call_after w (n + length xs) (call_after w n so xs) ys
call_join w n so [] ys = ap (λ (m : ℕ). call_after w m so ys) (omega arith)
call_join w n so (x ∷ xs) ys = call_join w (n + 1) (cond (x.worker == w) (call_by n so x.event x.outcome) so) xs ys
    ∙ ap (λ (m : ℕ). call_after w m (call_after w n so (x ∷ xs)) ys) (omega arith)

pub still_called : (w : ℕ) (first mid : List Turn) (c : Called) → call_begun w (first ++ mid) ≡ Some c
    → c.pin < length first → call_begun w first ≡ Some c
still_called w first mid c is less = kept_calls w (0 + length first) (call_begun w first) mid c
    (sym (call_join w 0 None first mid) ∙ is) (omega (arith, less))

-- a turn that neither confirms a pin nor leaves one
abbrev LeavesCalls : Turn → Type 0
LeavesCalls t = (n : ℕ) (so : Option Called) → call_by n so t.event t.outcome ≡ so

call_stays : (w : ℕ) (before : List Turn) (t : Turn) → LeavesCalls t
    → call_begun w (before ++ t ∷ []) ≡ call_begun w before
call_stays w before t same = call_join w 0 None before (t ∷ []) ∙ go (t.worker == w)
  where
    go : (b : Bool) → cond b (call_by (0 + length before) (call_begun w before) t.event t.outcome)
        (call_begun w before) ≡ call_begun w before
    go true = same (0 + length before) (call_begun w before)
    go false = refl

cut_leaves : (e : Event) (ns : List NodeId) (n : ℕ) (so : Option Called) → call_by n so e (Ok (Cut ns)) ≡ so
cut_leaves Sight ns n so = refl
cut_leaves (SightFor op key) ns n so = refl
cut_leaves Leave ns n so = refl
cut_leaves (LeaveWith answer) ns n so = refl
cut_leaves e ns n so = refl

-- so the worker of an act is in its call at its moment
module _ (turns before since : List Turn) (t : Turn) (all : turns ≡ before ++ t ∷ since) (same : LeavesCalls t) where
  whole_then : turns ≡ (before ++ t ∷ []) ++ since
  whole_then = all ∙ sym (append_assoc before (t ∷ []) since)

  call_then : (a : Act) → a.moment ≡ length before + 1 → IsAct turns a → call_begun a.worker before ≡ Some (called_in a)
  call_then a at (IsAnswered first rest is called late early) =
      let mid = begins_with (before ++ t ∷ []) since first
      (record { worker = a.worker; event = LeaveWith a.answer; outcome = Ok Departed } ∷ rest)
      (sym whole_then ∙ is) (let size = length-append before (t ∷ []) in omega (arith, size, at, early)) in
      sym (call_stays a.worker before t same)
      ∙ still_called a.worker (before ++ t ∷ []) mid.0 (called_in a) (ap (call_begun a.worker) (sym mid.1) ∙ called)
      (let size = length-append before (t ∷ []) in omega (arith, size, at, late))
  call_then a at (IsPending called late early) =
      sym (call_stays a.worker before t same)
      ∙ still_called a.worker (before ++ t ∷ []) since (called_in a)
      (ap (call_begun a.worker) (sym whole_then) ∙ called)
      (let size = length-append before (t ∷ []) in omega (arith, size, at, late))

-- where the events are split at one, so are the turns
told_at : (L : Layout) (ts before since : List (ℕ × Event)) (w : ℕ) (e : Event) (r : Reply)
    → ts ≡ before ++ (w, e) ∷ since → outcome_in (after_in (ordered L) before) (w, e) ≡ Ok r
    → trace_in (ordered L) ts ≡ trace_in (ordered L) before ++ record { worker = w; event = e; outcome = Ok r }
    ∷ trace_in (next_in (after_in (ordered L) before) (w, e)) since
unfolding trace_in
told_at L ts before since w e r all is = ap (trace_in (ordered L)) all
    ∙ (trace_in-append (ordered L) before ((w, e) ∷ since)
    ∙ ap (λ (o : Result Reply Refused). trace_in (ordered L) before ++ record { worker = w; event = e; outcome = o }
    ∷ trace_in (next_in (after_in (ordered L) before) (w, e)) since) is)

has_flagged : (L : Layout) (ts : List (ℕ × Event)) (w k : ℕ) (ns : List NodeId) (f : LawHasFlagged L ts w k)
    → Contains ns f.flagged → HasFlaggedOneOf (trace_in (ordered L) ts) w ns
has_flagged L ts w k ns f among = (
  f.parent,
  f.side,
  f.leaf,
  f.flagged,
  subst (λ (us : List Turn). Contains us (record {
    worker = w;
    event = Flag f.parent f.side f.leaf;
    outcome = Ok
        (Flagged f.flagged);
  })) (sym (told_at L ts f.before f.since w (Flag f.parent f.side f.leaf) (Flagged f.flagged)
      f.is_run f.won))
      (Contains-append_right (trace_in (ordered L) f.before)
      (record { worker = w; event = Flag f.parent f.side f.leaf; outcome = Ok (Flagged f.flagged) }
      ∷ trace_in (next_in (after_in (ordered L) f.before) (w, Flag f.parent f.side f.leaf)) f.since)
      (record { worker = w; event = Flag f.parent f.side f.leaf; outcome = Ok (Flagged f.flagged) })
      (0, omega arith, refl)),
  among,
)

module _ (L : Layout) (fits : IsLayout L) (ts : List (ℕ × Event)) (keys : All (λ t. HasKey t.1) ts) (acts : List Act)
    (law : LawIsHistory L ts acts) where
  abbrev turns : List Turn
  turns = trace_in (ordered L) ts

  keys_of : (early late : List (ℕ × Event)) → ts ≡ early ++ late → All (λ t. HasKey t.1) early
  keys_of early late all = first_keys early late (subst (λ (us : List (ℕ × Event)). All (λ t. HasKey t.1) us) all keys)

  words_of : (us : List (ℕ × Event)) → words_after L (trace_in (ordered L) us) ≡ (after_in (ordered L) us).state.memory
  words_of us = run_words L fits true us

  each : (a : Act) → LawIsAct L ts a → IsAct turns a
  each a (LawAnswered before since all may pin none_sooner early) =
      IsAnswered (trace_in (ordered L) before) (trace_in
      (next_in (after_in (ordered L) before) (a.worker, LeaveWith a.answer)) since)
      (told_at L ts before since a.worker (LeaveWith a.answer) Departed all may.leaves)
      (is_called L (enough_of L fits) a.worker before (keys_of before ((a.worker, LeaveWith a.answer) ∷ since) all)
      a.op a.key may.called ∙ ap (λ (p : ℕ). Some (record { pin = p; op = a.op; key = a.key })) (sym pin))
      none_sooner (let e = length_trace (ordered L) before in omega (arith, e, early))
  each a (LawPending called changed answer pin none_sooner early) =
      IsPending (is_called L (enough_of L fits) a.worker ts keys a.op a.key called
      ∙ ap (λ (p : ℕ). Some (record { pin = p; op = a.op; key = a.key })) (sym pin))
      none_sooner (let e = length_trace (ordered L) ts in omega (arith, e, early))

  answered : (before since : List Turn) (w : ℕ) (answer : Bool) (c : Called)
      → turns ≡ before ++ record { worker = w; event = LeaveWith answer; outcome = Ok Departed } ∷ since
      → call_begun w before ≡ Some c → HasAct acts w c answer
  answered before since w answer c all is = by (law.answered p.early h.others w c.op c.key answer whole may)
    where
      p : Parts (ordered L) ts before (record { worker = w; event = LeaveWith answer; outcome = Ok Departed } ∷ since)
      p = parts_of (ordered L) ts before (record { worker = w; event = LeaveWith answer; outcome = Ok Departed }
          ∷ since) all

      h : Head (after_in (ordered L) p.early) p.late
          (record { worker = w; event = LeaveWith answer; outcome = Ok Departed }) since
      h = head_of (after_in (ordered L) p.early) p.late
          (record { worker = w; event = LeaveWith answer; outcome = Ok Departed }) since (sym p.rest_is)

      event_is : h.event ≡ (w, LeaveWith answer)
      event_is = λ i. ((sym h.turn_is i).worker, (sym h.turn_is i).event)

      whole : ts ≡ p.early ++ (w, LeaveWith answer) ∷ h.others
      whole = p.all ∙ (ap (λ (us : List (ℕ × Event)). p.early ++ us) h.all
          ∙ ap (λ (t : ℕ × Event). p.early ++ t ∷ h.others) event_is)

      leaves : outcome_in (after_in (ordered L) p.early) (w, LeaveWith answer) ≡ Ok Departed
      leaves = ap (outcome_in (after_in (ordered L) p.early)) (sym event_is)
          ∙ ap (λ (t : Turn). t.outcome) (sym h.turn_is)

      call : (c.pin ≡ pin_of L p.early w) × IsCalled (after_in (ordered L) p.early) w c.op c.key
      call = called_is L (enough_of L fits) w p.early (keys_of p.early p.late p.all) c
          (ap (call_begun w) (sym p.first_is) ∙ is)

      may : MayAnswer (after_in (ordered L) p.early) w c.op c.key answer
      may = record { called = call.1; leaves = leaves }

      by : LawHasAct acts w (pin_of L p.early w) c.op c.key answer → HasAct acts w c answer
      by a = (
        a.act,
        a.among,
        a.worker,
        (λ i. record {
          pin = (a.is_pin ∙ sym call.0) i;
          op = a.is_op i;
          key =
              a.is_key i;
        }),
        a.is_answer,
      )

  moments : (so_far rest : List Turn) → turns ≡ so_far ++ rest
      → Replays nothing (up_to (length so_far) acts) (InSet (words_after L so_far))
  moments so_far rest all =
      let p : Parts (ordered L) ts so_far rest = parts_of (ordered L) ts so_far rest all in
      leads_up acts (length so_far) (InSet (words_after L so_far))
      (subst (λ (n : ℕ). LeadsTo acts n (InSet (words_after L so_far))) p.size
      (subst (λ (m : Memory). LeadsTo acts (length p.early) (InSet m))
      (sym (words_of p.early) ∙ ap (words_after L) (sym p.first_is)) (law.moments p.early p.late p.all)))

  -- the first events and the event itself, where the turns are split at a turn
  record At (before : List Turn) (w : ℕ) (e : Event) (r : Reply) : Type 0 where
    early : List (ℕ × Event)
    others : List (ℕ × Event)
    whole : ts ≡ early ++ (w, e) ∷ others
    before_is : before ≡ trace_in (ordered L) early
    size : length early ≡ length before
    told : outcome_in (after_in (ordered L) early) (w, e) ≡ Ok r
    keyed : All (λ t. HasKey t.1) early

  at : (before since : List Turn) (t : Turn) (r : Reply) → turns ≡ before ++ t ∷ since → t.outcome ≡ Ok r
      → At before t.worker t.event r
  at before since t r all is =
      let p : Parts (ordered L) ts before (t ∷ since) = parts_of (ordered L) ts before (t ∷ since) all in
      let h : Head (after_in (ordered L) p.early) p.late t since = head_of (after_in (ordered L) p.early) p.late t
      since (sym p.rest_is) in
      let event_is : h.event ≡ (t.worker, t.event) = λ i. ((sym h.turn_is i).worker, (sym h.turn_is i).event) in
      record {
        early = p.early;
        others = h.others;
        whole = p.all ∙ (ap (λ (us : List (ℕ × Event)). p.early ++ us) h.all
            ∙ ap (λ (u : ℕ × Event). p.early ++ u ∷ h.others) event_is);
        before_is = p.first_is;
        size = p.size;
        told = ap (outcome_in (after_in (ordered L) p.early)) (sym event_is)
            ∙ (ap (λ (u : Turn). u.outcome) (sym h.turn_is) ∙ is);
        keyed = keys_of p.early p.late p.all;
      }

  links : (before since : List Turn) (w p : ℕ) (side : Side) (leaf new : ℕ) (n : NodeId)
      → turns ≡ before ++ record { worker = w; event = Link p side leaf new; outcome = Ok (Linked n) } ∷ since
      → (a : Act) × IsAmong acts a × (a.worker ≡ w) × (a.moment ≡ length before + 1) × IsInCall before Insert a
  links before since w p side leaf new n all = by row.row row.are_keys
      (λ a there. among_row row.front row.row row.back a there) row.at row.each
    where
      x : At before w (Link p side leaf new) (Linked n)
      x = at before since (record { worker = w; event = Link p side leaf new; outcome = Ok (Linked n) }) (Linked n)
          all refl

      ins : (k : ℕ) × IsCalled (after_in (ordered L) x.early) w Insert k
      ins = let i = each_link_inserts L (enough_of L fits) x.early x.keyed w p side leaf new n x.told in (i.0, i.1)

      row : HasInARow acts (ins.0 ∷ []) (length x.early + 1) (λ a. (a.worker ≡ w) × (a.op ≡ Insert) × (a.answer ≡ true))
      row = law.links x.early x.others w p side leaf new n ins.0 x.whole x.told ins.1

      no_key : (k : ℕ) → ◌≡◌ {A = List ℕ} [] (k ∷ []) → ⊥
      no_key k e = cc

      by : (made : List Act) → map (λ (a : Act). a.key) made ≡ ins.0 ∷ []
          → ((a : Act) → IsAmong made a → IsAmong (row.front ++ (row.row ++ row.back)) a)
          → ((a : Act) → IsAmong made a → a.moment ≡ length x.early + 1)
          → ((a : Act) → IsAmong made a → (a.worker ≡ w) × (a.op ≡ Insert) × (a.answer ≡ true))
          → (a : Act) × IsAmong acts a × (a.worker ≡ w) × (a.moment ≡ length before + 1) × IsInCall before Insert a
      by [] is among moment of = absurd (no_key ins.0 is)
      by (a ∷ made) is among moment of =
          let there : IsAmong acts a = subst (λ (l : List Act). IsAmong l a) (sym row.are) (among a (inl refl)) in
          let now : a.moment ≡ length before + 1 = moment a (inl refl) ∙ ap (λ (n : ℕ). n + 1) x.size in
          let own = of a (inl refl) in (
            a,
            there,
            own.0,
            now,
            (
              call_then turns before since
                  (record { worker = w; event = Link p side leaf new; outcome = Ok (Linked n) }) all (λ n so. refl) a
                  now
                  (each a (law.each a there)),
              own.1,
              own.2,
            ),
          )

  cuts : (before since : List Turn) (t : Turn) (ns : List NodeId) → turns ≡ before ++ t ∷ since
      → t.outcome ≡ Ok (Cut ns)
      → (a : ℕ) (side : Side) (s p : ℕ) (keep : Side) → t.event ≡ Splice a side s p keep
      → HasInARow acts (leaf_keys (words_after L before) (slots_of ns)) (length before + 1)
      (λ a. IsInCall before Delete a × HasFlaggedOneOf before a.worker ns)
  cuts before since t ns all is y side s p keep splice = record {
    front = row.front;
    row = row.row;
    back = row.back;
    are = row.are;
    are_keys = row.are_keys ∙ ap (λ (m : Memory). leaf_keys m (slots_of ns))
        (sym (words_of x.early) ∙ ap (words_after L) (sym x.before_is));
    at = now;
    each = λ a there. let own = row.each a there in (
      (
        call_then turns before since t all (λ n so. ap (call_by n so t.event) is ∙ cut_leaves t.event ns n so) a
            (now a there) (each a (law.each a (subst (λ (l : List Act). IsAmong l a) (sym row.are)
            (among_row row.front row.row row.back a there)))),
        own.0,
        own.1,
      ),
      subst (λ (us : List Turn). HasFlaggedOneOf us a.worker ns) (sym x.before_is)
          (has_flagged L x.early a.worker a.key ns own.2 own.3),
    );
  }
    where
      x : At before t.worker t.event (Cut ns)
      x = at before since t (Cut ns) all is

      row : HasInARow acts (leaf_keys (after_in (ordered L) x.early).state.memory (slots_of ns)) (length x.early + 1)
          (IsDeleteOf L x.early ns)
      row = law.cuts x.early x.others (t.worker, t.event) ns x.whole x.told (ap is_splice splice)

      now : (a : Act) → IsAmong row.row a → a.moment ≡ length before + 1
      now a there = row.at a there ∙ ap (λ (n : ℕ). n + 1) x.size

  is_history : IsHistory L turns acts
  is_history = record {
    replays = subst (λ (m : Memory). Replays nothing acts (InSet m)) (sym (words_of ts)) law.replays;
    moments = moments;
    in_order = acts_in_order acts 0 false law.in_order;
    once = each_once acts law.once;
    each = λ a among. each a (law.each a among);
    answered = answered;
    links = links;
    cuts = cuts;
  }

pub history_of_run : (L : Layout) → IsLayout L → (ts : List (ℕ × Event)) → All (λ t. HasKey t.1) ts
    → HasHistory L (trace_in (ordered L) ts)
history_of_run L fits ts keys = let h = each_run_has_a_history L (enough_of L fits) ts keys in
    (h.0, is_history L fits ts keys h.0 h.1)

-- each log is a part of such turns
pub log_of_turns : (L : Layout) → IsLayout L → (w : ℕ) (log : List Entry) → IsLogOf L w log → IsPartOfTurns L w log
log_of_turns L fits w log is = record {
  turns = trace_in (ordered L) is.turns;
  is_part = is.is_part;
  headline = headline L fits true is.turns is.keys;
  history = history_of_run L fits is.turns is.keys;
}
