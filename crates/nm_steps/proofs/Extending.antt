-- An event that a worker's own log allows makes a run longer by one turn, and changes the one word
-- that it touches.
use Rattle.std.proofs.Common.{◌≡◌, ℕ, true≢false, length, not, ◌≢◌, ne_eqb, ◌<◌, ◌≤◌, ◌==◌, Bool, true, false, ◌||◌, cond, List, [], ◌∷◌, ◌++◌, refl, sym, ap, ◌∙◌, subst, arith, Result, Ok}
use Rattle.std.specs.Prelude.{Option, Some, None, All, nat_le}
use Rattle.std.proofs.lemmas.Bool.{leb-true}
use Rattle.nm_edge.specs.Layouts.{Layout, IsLayout}
use Rattle.nm_edge.specs.Words.{IsField}
use Rattle.nm_model.specs.declared.event.Event.{Event}
use Rattle.nm_model.specs.declared.event.Event.TheVariants.{Join, Fill}
use Rattle.nm_model.specs.declared.event.Field.TheVariants.{Birth}
use Rattle.nm_model.specs.declared.reply.Reply.{Reply}
use Rattle.nm_model.specs.declared.reply.Reply.TheVariants.{Joined}
use Rattle.nm_model.specs.declared.reply.Refused.{Refused}
use Rattle.nm_model.specs.declared.reply.Refused.TheVariants.{NoWorker, NotReady}
use Rattle.nm_model.specs.Maps.{or_else}
use Rattle.nm_model.specs.Knowledge.{Knowledge}
use Rattle.nm_model.specs.Step.{first, ◌refuses◌, refusal, write}
use Rattle.nm_model.specs.Runs.{State, of, start, next, applied, refused, refusal_of, reply_of, is_no_worker, join_refusal}
use Rattle.nm_model.specs.Lawful.{BirthsStand, EachBirthStands}
use Rattle.nm_model.specs.Walks.{Entry, log_of, search_after}
use Rattle.nm_model.specs.Searches.{Search, idle}
use Rattle.nm_model.specs.Ordered.{Configuration, ordered, search_of, disorder, disorder_in, disorder_among, refused_in, applied_in, next_in, after_in, trace_in}
use Rattle.nm_laws.proofs.Configurations.{after_in-append, allowed_next, allowed_outcome, allowed_state}
use Rattle.nm_laws.proofs.KnownBirths.{each_birth_stands}
use Rattle.nm_laws.proofs.LogsOfRuns.{searches_tell}
use Rattle.nm_laws.proofs.Reachable.{layout_kept}
use Rattle.nm_order.specs.Intervals.{HasKey}
use Rattle.nm_order.specs.Logs.{part_of, known_by}
use Rattle.nm_order.specs.OwnBirths.{births_by}
use Rattle.nm_order.proofs.LinkedBirths.{own_births_stand}
use Rattle.nm_order.proofs.PartsOfRuns.{logs_tell, part_tells_search}
use Rattle.nm_order.proofs.OrderedLaws.{IsOrdered, each_ordered}
use Rattle.nm_order.proofs.LastEntries.{at_some}
use Rattle.nm_order.proofs.WalksOfRuns.{trace_in-append}
use Rattle.nm_steps.specs.Packing.{words_of, word_at, touched_field, left_word, with_word, EventsTouchOneWord}
use Rattle.nm_steps.specs.Told.{BirthsAreIn, told, BirthsAreKnown, RepliesAreTold}
use Rattle.nm_steps.proofs.PackedEvents.{each_event_touches_one_word}
use Rattle.nm_steps.proofs.PackedReplies.{each_reply_is_told}
use Rattle.nm_steps.specs.Steps.{May, IsAsLooked, HasEmptyHands}

-- ---- traces

-- ---- one more turn

-- a join aside, what a worker does is judged by what it knows
plainly : (s : State) (w : ℕ) (births : ℕ → Option ℕ) (e : Event) → BirthsAreKnown s.layout (of s w) births e
    → refusal_of s w e ≡ refusal s.layout s.memory (of s w) w e
plainly s w births (Join v) known = absurd known
plainly s w births e known = refl

-- what was looked at is so
as_looked : (s : State) (w : ℕ) → BirthsStand s w → (e : Event) → IsAsLooked (of s w) s.memory e
as_looked s w stand (Fill x Birth v) = stand.looked x
as_looked s w stand e = tt

there : (s : State) (w : ℕ) (e : Event) → w < s.layout.workers → (of s w).gone ≡ false → refusal_of s w e ≡ None
    → refused s w e ≡ None
unfolding refused
there s w e below here none = go (nat_le s.layout.workers w) (of s w).gone refl here
  where
    go : (a b : Bool) → nat_le s.layout.workers w ≡ a → b ≡ false
        → cond (a || b) (Some NoWorker) (refusal_of s w e) ≡ None
    go true b is still = absurd (let q : s.layout.workers ≤ w = leb-true s.layout.workers w is in
        omega (arith, q, below))
    go false true is still = absurd (true≢false still)
    go false false is still = none

both_none : (a b : Option Refused) → a ≡ None → b ≡ None → or_else a b ≡ None
both_none a b p q = rw (p, q) refl

pub neither : (a b : Bool) → a ≡ false → b ≡ false → (a || b) ≡ false
neither a b p q = rw (p, q) refl

not_le : (n w : ℕ) → w < n → nat_le n w ≡ false
not_le n w below = go (nat_le n w) refl
  where
    go : (b : Bool) → nat_le n w ≡ b → b ≡ false
    go true is = absurd (let q : n ≤ w = leb-true n w is in omega (arith, q, below))
    go false is = refl

-- neither of two tests refuses
both_pass : (a b : Bool) (r q : Refused) → a ≡ false → b ≡ false → first (a refuses r ∷ b refuses q ∷ []) ≡ None
both_pass a b r q p h = rw (p, h) refl

-- a log is a worker's part of a run, and the worker has not resigned
pub record IsPartOf (L : Layout) (w : ℕ) (log : List Entry) (turns : List (ℕ × Event)) : Type 0 where
  pub fits : IsLayout L
  pub keys : All (λ t. HasKey t.1) turns
  pub worker : w < L.workers
  pub is_part : log ≡ part_of w (trace_in (ordered L) turns)
  pub here : (known_by L w log).gone ≡ false

module _ (L : Layout) (w : ℕ) (log : List Entry) (turns : List (ℕ × Event)) (p : IsPartOf L w log turns) where
  abbrev c : Configuration
  c = after_in (ordered L) turns

  abbrev k : Knowledge
  k = known_by L w log

  enough : 5 ≤ L.nodes
  enough = let least = p.fits.least in omega arith

  o : IsOrdered L c
  o = each_ordered L enough turns p.keys

  layout_is : c.state.layout ≡ L
  layout_is = ap (λ (s : State). s.layout) o.leads ∙ layout_kept (start L) o.events

  knows : of c.state w ≡ k
  knows = logs_tell L turns w p.worker ∙ ap (known_by L w) (sym p.is_part)

  -- the state's layout and what the worker knows are these
  as_known : {X : Type 0} (f : Layout → Knowledge → X) → f c.state.layout (of c.state w) ≡ f L k
  as_known f = ap (λ (l : Layout). f l (of c.state w)) layout_is ∙ ap (f L) knows

  holds_there : (P : Layout → Knowledge → Type 0) → P L k → P c.state.layout (of c.state w)
  holds_there P holds = subst (λ (l : Layout). P l (of c.state w)) (sym layout_is) (subst (P L) (sym knows) holds)

  -- the births that the log tells stand in memory
  births_are_in : BirthsAreIn c.state.memory (births_by L w log)
  births_are_in x b is = own_births_stand L enough turns p.keys w x b p.worker
      (ap (λ (l : List Entry). births_by L w l x) (sym p.is_part) ∙ is)

  search_is : search_of o.searches w ≡ search_after idle log
  search_is =
      at_some (c.searches) o.searches (λ ss. search_of ss w
      ≡ search_after idle (log_of w (trace_in (ordered L) turns))) o.are (searches_tell L turns w p.worker)
      ∙ (sym (part_tells_search w (trace_in (ordered L) turns) idle) ∙ ap (search_after idle) (sym p.is_part))

  module _ (e : Event) (may : May L w log e) where
    refusal_none : refusal_of c.state w e ≡ None
    refusal_none =
        plainly c.state w (births_by L w log) e (holds_there (λ l x. BirthsAreKnown l x (births_by L w log) e)
        may.births)
        ∙ (as_known (λ l x. refusal l c.state.memory x w e)
        ∙ may.allowed c.state.memory (subst (λ (x : Knowledge). IsAsLooked x c.state.memory e) knows
        (as_looked c.state w (stand w) e)))
      where
        stand : EachBirthStands c.state
        stand = subst EachBirthStands (sym o.leads) (each_birth_stands L enough o.events)

    in_order : disorder_in c w e ≡ None
    in_order = ap (λ ss. disorder_among c.state.layout ss (of c.state w) w e) o.are
        ∙ (ap (λ (x : Knowledge). disorder c.state.layout x (search_of o.searches w) e) knows
        ∙ (ap (λ (x : Search). disorder c.state.layout k x e) search_is
        ∙ (ap (λ (l : Layout). disorder l k (search_after idle log) e) layout_is ∙ may.ordered)))

    no_refusal : refused c.state w e ≡ None
    no_refusal = there c.state w e (subst (λ (l : Layout). w < l.workers) (sym layout_is) p.worker)
        (ap (λ (x : Knowledge). x.gone) knows ∙ p.here) refusal_none

    pub accepted : refused_in c w e ≡ None
    unfolding refused_in
    accepted = both_none (refused c.state w e) (disorder_in c w e) no_refusal in_order

    abbrev found : ℕ
    found = word_at L c.state.memory (touched_field w e)

    touching : IsField c.state.layout (touched_field w e)
        × (words_of c.state.layout (next c.state (w, e)).memory
        ≡ with_word c.state.layout c.state.memory (touched_field w e)
        (left_word c.state.layout (of c.state w) e (word_at c.state.layout c.state.memory (touched_field w e))))
    touching = subst EventsTouchOneWord (sym o.leads) (each_event_touches_one_word L enough o.events) w e no_refusal

    pub field : IsField L (touched_field w e)
    field = subst (λ (l : Layout). IsField l (touched_field w e)) layout_is touching.0

    -- the words after the event
    pub words_after : words_of L (after_in (ordered L) (turns ++ (w, e) ∷ [])).state.memory
        ≡ with_word L c.state.memory (touched_field w e) (left_word L k e found)
    unfolding after_in
    words_after =
        ap (λ (d : Configuration). words_of L d.state.memory) (after_in-append (ordered L) turns ((w, e) ∷ []))
        ∙ (ap (λ (s : State). words_of L s.memory) (sym (allowed_state c (w, e) accepted))
        ∙ (ap (λ (l : Layout). words_of l (next c.state (w, e)).memory) (sym layout_is)
        ∙ (touching.1 ∙ as_known (λ l x. with_word l c.state.memory (touched_field w e)
        (left_word l x e (word_at l c.state.memory (touched_field w e)))))))

    -- and its reply
    pub reply_is : reply_of c.state w e ≡ told L k (births_by L w log) e found
    reply_is =
        subst RepliesAreTold (sym o.leads) (each_reply_is_told L enough o.events) w e (births_by L w log)
        births_are_in no_refusal (holds_there (λ l x. BirthsAreKnown l x (births_by L w log) e) may.births)
        ∙ as_known (λ l x. told l x (births_by L w log) e (word_at l c.state.memory (touched_field w e)))

    -- the trace of one turn more
    pub trace_after : trace_in (ordered L) (turns ++ (w, e) ∷ [])
        ≡ trace_in (ordered L) turns ++ record {
          worker = w;
          event = e;
          outcome = Ok
              (told L k (births_by L w log) e found);
        } ∷ []
    unfolding trace_in
    trace_after = trace_in-append (ordered L) turns ((w, e) ∷ [])
        ∙ ap (λ (r : Result Reply Refused). trace_in (ordered L) turns ++ record { worker = w; event = e; outcome = r }
        ∷ []) (allowed_outcome c (w, e) accepted ∙ ap Ok reply_is)

-- ---- a join

module _ (L : Layout) (u w : ℕ) (heirs leavers : List Entry) (turns : List (ℕ × Event))
    (p : IsPartOf L u heirs turns) (q : IsPartOf L w leavers turns)
    (differ : u ≢ w) (hands : HasEmptyHands (known_by L w leavers)) where
  abbrev d : Configuration
  d = after_in (ordered L) turns

  worker_is_there : (v : ℕ) (log : List Entry) → IsPartOf L v log turns → is_no_worker d.state v ≡ false
  worker_is_there v log p = neither (nat_le d.state.layout.workers v) (of d.state v).gone
      (not_le d.state.layout.workers v (subst (λ (l : Layout). v < l.workers) (sym (layout_is L v log turns p))
      p.worker)) (ap (λ (x : Knowledge). x.gone) (knows L v log turns p) ∙ p.here)

  join_allowed : join_refusal d.state u w ≡ None
  join_allowed =
      both_pass _ _ NoWorker NotReady (neither (w == u) (is_no_worker d.state w)
      (ne_eqb w u (λ same. differ (sym same))) (worker_is_there w leavers q))
      (neither (not (length (of d.state w).drafts == 0)) (of d.state w).brief.unlabelled
      (ap (λ (x : Knowledge). not (length x.drafts == 0)) (knows L w leavers turns q)
      ∙ ap (λ (n : ℕ). not (n == 0)) hands.drafts)
      (ap (λ (x : Knowledge). x.brief.unlabelled) (knows L w leavers turns q) ∙ hands.labelled))

  join_not_refused : refused d.state u (Join w) ≡ None
  unfolding refused
  join_not_refused = ap (λ (b : Bool). cond b (Some NoWorker) (join_refusal d.state u w)) (worker_is_there u heirs p)
      ∙ join_allowed

  in_any_order : (o : Option (List Search)) → disorder_among d.state.layout o (of d.state u) u (Join w) ≡ None
  in_any_order None = refl
  in_any_order (Some ss) = refl

  join_accepted : refused_in d u (Join w) ≡ None
  unfolding refused_in
  join_accepted = both_none (refused d.state u (Join w)) (disorder_in d u (Join w)) join_not_refused
      (in_any_order d.searches)

  same_memory : (next_in d (u, Join w)).state.memory ≡ d.state.memory
  unfolding applied_in applied write
  same_memory = ap (λ (x : Configuration). x.state.memory) (allowed_next d (u, Join w) join_accepted)

  -- a join changes no word
  pub words_after_join : words_of L (after_in (ordered L) (turns ++ (u, Join w) ∷ [])).state.memory
      ≡ words_of L d.state.memory
  unfolding after_in
  words_after_join = ap (λ (x : Configuration). words_of L x.state.memory)
      (after_in-append (ordered L) turns ((u, Join w) ∷ [])) ∙ ap (words_of L) same_memory

  pub trace_after_join : trace_in (ordered L) (turns ++ (u, Join w) ∷ [])
      ≡ trace_in (ordered L) turns ++ record {
        worker = u;
        event = Join w;
        outcome = Ok
            (Joined (known_by L w leavers).ledgers);
      } ∷ []
  unfolding trace_in
  trace_after_join =
      trace_in-append (ordered L) turns ((u, Join w) ∷ [])
      ∙ ap (λ (r : Result Reply Refused). trace_in (ordered L) turns
      ++ record { worker = u; event = Join w; outcome = r } ∷ [])
      (allowed_outcome d (u, Join w) join_accepted ∙ ap (λ (x : Knowledge). Ok (Joined x.ledgers))
      (knows L w leavers turns q))
