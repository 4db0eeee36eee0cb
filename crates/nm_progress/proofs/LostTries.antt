-- A try that is lost is lost to another worker.
use Rattle.std.proofs.Common.{◌≡◌, ℕ, suc, ◌≤◌, inl, inr, ◌⊎◌, ◌==◌, Bool, true, false, cond, List, [], ◌∷◌, ◌++◌, refl, sym, ap, subst, ◌∙◌, arith, true≢false}
use Rattle.std.specs.Prelude.{Option, Some, None, Result, Ok, Err, All}
use Rattle.std.specs.List.{list_any}
use Rattle.std.proofs.lemmas.Bool.{or_parts, eq-eqb, and_from}
use Rattle.std.proofs.lemmas.List.Folds.{list_any-append}
use Rattle.nm_edge.specs.Edges.{Edge, to, is_to}
use Rattle.nm_edge.specs.Layouts.{Layout}
use Rattle.nm_edge.specs.declared.edge.Side.{Side}
use Rattle.nm_model.specs.declared.event.Field.TheVariants.{Edge as EdgeOn}
use Rattle.nm_model.specs.declared.event.Event.{Event}
use Rattle.nm_model.specs.declared.event.Event.TheVariants.{Look, Link, Flag, Tag, Splice, Swap}
use Rattle.nm_model.specs.declared.reply.Reply.{Reply}
use Rattle.nm_model.specs.declared.reply.Reply.TheVariants.{EdgeIs, Linked, Flagged, Was, Cut, Lost}
use Rattle.nm_model.specs.declared.reply.Refused.{Refused}
use Rattle.nm_model.specs.Memory.{edge, named}
use Rattle.nm_model.specs.Knowledge.{knows, is_private}
use Rattle.nm_model.specs.Step.{reply, node_linked, cut_nodes}
use Rattle.nm_model.specs.Runs.{State, of, reply_of}
use Rattle.nm_model.specs.Walks.{log_of, begins_anew}
use Rattle.nm_model.specs.Ordered.{Configuration, ordered, refused_in, next_in, outcome_in, after_in, trace_in}
use Rattle.nm_laws.proofs.Configurations.{refused_outcome, allowed_outcome}
use Rattle.nm_laws.proofs.Outcomes.{same_reply, no_reply}
use Rattle.nm_order.specs.Intervals.{HasKey}
use Rattle.nm_order.specs.Moments.{OfEachOrderedRun, PinStands}
use Rattle.nm_order.proofs.OrderedLaws.{IsOrdered, ordered_next, each_ordered, law_of_state}
use Rattle.nm_order.proofs.ToldLaws.{live_then}
use Rattle.nm_order.proofs.OwnTurns.{stands_parts}
use Rattle.nm_order.proofs.RunMoments.{entries, allowed_entries}
use Rattle.nm_order.proofs.RunExchanges.{first_keys}
use Rattle.nm_progress.specs.Changes.{is_at, changes, is_change, IsChangedByAnother, Expects, behind_look, LostTriesAreToOthers}
use Rattle.nm_progress.specs.Changes.Expects.{ToLink, ToFlag, ToCut, ToSwap}
use Rattle.nm_progress.proofs.EdgeFates.{same_place, EdgeFate, TurnFate, turn_fates, known_still}
use Rattle.nm_progress.proofs.EdgeFates.EdgeFate.{Kept, IsLinked, IsFlagged, IsTagged, IsSpliced, IsSwapped}
use Rattle.nm_progress.proofs.EdgeFates.TurnFate.{Refuses, Makes}

-- ---- lists

-- the keys of a later part of a run
pub later_keys : (before since : List (ℕ × Event)) → All (λ t. HasKey t.1) (before ++ since)
    → All (λ t. HasKey t.1) since
later_keys [] since keys = keys
later_keys (t ∷ ts) since keys = later_keys ts since (λ i d below. keys (suc i) d (omega (arith, below)))

-- ---- what a worker answered

-- the reply of a turn that was answered
pub answered_so : (c : Configuration) (w : ℕ) (e : Event) (r : Reply) → outcome_in c (w, e) ≡ Ok r
    → (refused_in c w e ≡ None) × (reply_of c.state w e ≡ r)
answered_so c w e r is = go (refused_in c w e) refl
  where
    go : (q : Option Refused) → refused_in c w e ≡ q → (refused_in c w e ≡ None) × (reply_of c.state w e ≡ r)
    go (Some q) why = absurd (no_reply q r (sym (refused_outcome c (w, e) q why) ∙ is))
    go None why = (why, same_reply (reply_of c.state w e) r (sym (allowed_outcome c (w, e) why) ∙ is))

look_told : (s : State) (w x : ℕ) (d : Side) → reply_of s w (Look x (EdgeOn d)) ≡ EdgeIs (edge s.memory x d)
unfolding reply
look_told s w x d = refl

same_edge : (a b : Edge) → EdgeIs a ≡ EdgeIs b → a ≡ b
same_edge a b e = cc

-- an exchange whose edge is the one that it expects is not lost
pub never_lost : (s : State) (w x : ℕ) (d : Side) (v : ℕ) (e : Event) (found : Edge) → Expects x d v e
    → edge s.memory x d ≡ to v → reply_of s w e ≡ Lost found → ⊥
unfolding reply
never_lost s w x d v _ found (ToLink new) is lost = by (is_to (edge s.memory x d) v)
    (ap (λ (e : Edge). is_to e v) is ∙ and_from (v == v) true (eq-eqb v v refl) refl) lost
  where
    by : (b : Bool) → b ≡ true → cond b (Linked (node_linked (of s w) new)) (Lost (edge s.memory x d)) ≡ Lost found → ⊥
    by true t e = cc
    by false t e = true≢false (sym t)
never_lost s w x d v _ found ToFlag is lost = by (is_to (edge s.memory x d) v)
    (ap (λ (e : Edge). is_to e v) is ∙ and_from (v == v) true (eq-eqb v v refl) refl) lost
  where
    by : (b : Bool) → b ≡ true → cond b (Flagged (named s.memory v)) (Lost (edge s.memory x d)) ≡ Lost found → ⊥
    by true t e = cc
    by false t e = true≢false (sym t)
never_lost s w x d v _ found (ToCut p keep) is lost = by (is_to (edge s.memory x d) v)
    (ap (λ (e : Edge). is_to e v) is ∙ and_from (v == v) true (eq-eqb v v refl) refl) lost
  where
    by : (b : Bool) → b ≡ true → cond b (Cut (cut_nodes s.layout s.memory (of s w) v p keep))
        (Lost (edge s.memory x d)) ≡ Lost found → ⊥
    by true t e = cc
    by false t e = true≢false (sym t)
never_lost s w x d v _ found (ToSwap new) is lost =
    by (is_to (edge s.memory x d) v) (ap (λ (e : Edge). is_to e v) is
    ∙ and_from (v == v) true (eq-eqb v v refl) refl) lost
  where
    by : (b : Bool) → b ≡ true → cond b (Cut (named s.memory v ∷ [])) (Lost (edge s.memory x d)) ≡ Lost found → ⊥
    by true t e = cc
    by false t e = true≢false (sym t)

-- ---- over turns

module _ (L : Layout) (enough : 5 ≤ L.nodes) (w x : ℕ) (d : Side) (v : ℕ) where
  -- what a worker knows is private to nobody
  pub not_private : (c : Configuration) → IsOrdered L c → knows (of c.state w) x ≡ true → (u : ℕ)
      → is_private (of c.state u) x ≡ false
  not_private c o known u = let l = law_of_state L enough c o in (live_then c.state l.0 l.1 w x known).shared u

  changed_or_not : (c : Configuration) (t : ℕ × Event) → IsOrdered L c → knows (of c.state w) x ≡ true
      → edge c.state.memory x d ≡ to v → (changes x d t.1 (outcome_in c t) ≡ true)
      ⊎ (edge (next_in c t).state.memory x d ≡ to v)
  changed_or_not c t o known is = by (turn_fates L enough c t o x d (not_private c o known t.0))
    where
      on : (r : Reply) → outcome_in c t ≡ Ok r → EdgeFate c.state t.0 t.1 (next_in c t).state.memory r x d
          → (changes x d t.1 (outcome_in c t) ≡ true) ⊎ (edge (next_in c t).state.memory x d ≡ to v)
      on r told (Kept same) = inr (same ∙ is)
      on r told (IsLinked leaf new n event reply was now) = inl
          ((λ i. changes x d (event i) (told i)) ∙ (ap (λ (r : Reply). changes x d (Link x d leaf new) (Ok r)) reply
          ∙ same_place x d))
      on r told (IsFlagged leaf n event reply was now) = inl
          ((λ i. changes x d (event i) (told i)) ∙ (ap (λ (r : Reply). changes x d (Flag x d leaf) (Ok r)) reply
          ∙ same_place x d))
      on r told (IsTagged event reply now) = inl ((λ i. changes x d (event i) (told i))
          ∙ (ap (λ (r : Reply). changes x d (Tag x d) (Ok r)) (reply ∙ ap (λ (e : Edge). Was e) is)
          ∙ and_from (is_at x d x d) true (same_place x d) refl))
      on r told (IsSpliced y p keep ns event reply was now) = inl
          ((λ i. changes x d (event i) (told i)) ∙ (ap (λ (r : Reply). changes x d (Splice x d y p keep) (Ok r)) reply
          ∙ same_place x d))
      on r told (IsSwapped leaf new ns event reply was now) =
          inl ((λ i. changes x d (event i) (told i))
          ∙ (ap (λ (r : Reply). changes x d (Swap x d leaf new) (Ok r)) reply ∙ same_place x d))

      by : TurnFate c t x d → (changes x d t.1 (outcome_in c t) ≡ true) ⊎ (edge (next_in c t).state.memory x d ≡ to v)
      by (Refuses q told same) = inr (ap (λ (d' : Configuration). edge d'.state.memory x d) same ∙ is)
      by (Makes r told fate) = on r told fate

  -- a turn that is one of w's own stands in its log
  own_change : (c : Configuration) (t : ℕ × Event) → changes x d t.1 (outcome_in c t) ≡ true → t.0 ≡ w
      → list_any (is_change x d) (entries w c t) ≡ false → ⊥
  own_change c t changed own none = by (outcome_in c t) refl changed
    where
      refused_changes : (e : Event) (q : Refused) → changes x d e (Err q) ≡ true → ⊥
      refused_changes (Link a b f g) q is = true≢false (sym is)
      refused_changes (Flag a b f) q is = true≢false (sym is)
      refused_changes (Tag a b) q is = true≢false (sym is)
      refused_changes (Splice a b f g h) q is = true≢false (sym is)
      refused_changes (Swap a b f g) q is = true≢false (sym is)
      refused_changes e q is = true≢false (sym is)

      by : (o : Result Reply Refused) → outcome_in c t ≡ o → changes x d t.1 o ≡ true → ⊥
      by (Err q) told is = refused_changes t.1 q is
      by (Ok r) told is = true≢false (sym is ∙ (or_parts (changes x d t.1 (Ok r)) false
          (sym (ap (list_any (is_change x d)) (allowed_entries w c t r told
          ∙ ap (λ (b : Bool). cond b ((t.1, r) ∷ []) []) (eq-eqb t.0 w own))) ∙ none)).0)

  -- the edge is as it was, or another worker has changed it
  pub stays_or_changed : (ts : List (ℕ × Event)) → All (λ t. HasKey t.1) ts → (c : Configuration) → IsOrdered L c
      → knows (of c.state w) x ≡ true → edge c.state.memory x d ≡ to v → PinStands w (trace_in c ts)
      → list_any (is_change x d) (log_of w (trace_in c ts)) ≡ false
      → IsChangedByAnother c ts w x d v ⊎ (edge (after_in c ts).state.memory x d ≡ to v)
  unfolding after_in trace_in
  stays_or_changed [] keys c o known is stands none = inr is
  stays_or_changed (t ∷ ts) keys c o known is stands none = by (changed_or_not c t o known is)
      (stays_or_changed ts (λ i e below. keys (suc i) e (omega (arith, below))) (next_in c t)
      (ordered_next L enough c t (keys 0 t (omega arith)) o))
    where
      pins : (list_any begins_anew (entries w c t) ≡ false) × PinStands w (trace_in (next_in c t) ts)
      pins = stands_parts L w c t ts stands

      nones : (list_any (is_change x d) (entries w c t) ≡ false)
          × (list_any (is_change x d) (log_of w (trace_in (next_in c t) ts)) ≡ false)
      nones = or_parts (list_any (is_change x d) (entries w c t))
          (list_any (is_change x d) (log_of w (trace_in (next_in c t) ts)))
          (sym (list_any-append (is_change x d) (entries w c t) (log_of w (trace_in (next_in c t) ts))) ∙ none)

      longer : IsChangedByAnother (next_in c t) ts w x d v → IsChangedByAnother c (t ∷ ts) w x d v
      longer b = record {
        before = t ∷ b.before;
        turn = b.turn;
        since = b.since;
        is_run = ap
            (λ (l : List (ℕ × Event)). t ∷ l) b.is_run;
        another = b.another;
        was = b.was;
        changes = b.changes;
      }

      by : (changes x d t.1 (outcome_in c t) ≡ true) ⊎ (edge (next_in c t).state.memory x d ≡ to v)
          → (knows (of (next_in c t).state w) x ≡ true → edge (next_in c t).state.memory x d ≡ to v
          → PinStands w (trace_in (next_in c t) ts) → list_any (is_change x d)
          (log_of w (trace_in (next_in c t) ts)) ≡ false
          → IsChangedByAnother (next_in c t) ts w x d v ⊎ (edge (after_in (next_in c t) ts).state.memory x d ≡ to v))
          → IsChangedByAnother c (t ∷ ts) w x d v ⊎ (edge (after_in (next_in c t) ts).state.memory x d ≡ to v)
      by (inl changed) rest = inl (record {
        before = [];
        turn = t;
        since = ts;
        is_run = refl;
        another = λ own.
            own_change c t changed own nones.0;
        was = is;
        changes = changed;
      })
      by (inr same) rest = elim (rest (known_still L enough c t o w x pins.0 known) same pins.1 nones.1) [
        | inl b ↦ inl (longer b)
        | inr e ↦ inr e
      ]

-- a look that answered an edge without a mark leaves that edge, and what its worker knows
pub look_leaves : (L : Layout) (enough : 5 ≤ L.nodes) (c : Configuration) (o : IsOrdered L c) (w x : ℕ) (d : Side)
    (v : ℕ) → knows (of c.state w) x ≡ true → outcome_in c (w, Look x (EdgeOn d)) ≡ Ok (EdgeIs (to v))
    → (knows (of (next_in c (w, Look x (EdgeOn d))).state w) x ≡ true)
    × (edge (next_in c (w, Look x (EdgeOn d))).state.memory x d ≡ to v)
look_leaves L enough c o w x d v known read = (
  known_still L enough c look o w x quiet known,
  by
      (turn_fates L enough c look o x d (not_private L enough w x d v c o known w)),
)
  where
    look : ℕ × Event
    look = (w, Look x (EdgeOn d))

    read0 : edge c.state.memory x d ≡ to v
    read0 = same_edge _ (to v) (sym (look_told c.state w x d)
        ∙ (answered_so c w (Look x (EdgeOn d)) (EdgeIs (to v)) read).1)

    none : (b : Bool) → list_any begins_anew (cond b ((Look x (EdgeOn d), EdgeIs (to v)) ∷ []) []) ≡ false
    none true = refl
    none false = refl

    quiet : list_any begins_anew (entries w c (w, Look x (EdgeOn d))) ≡ false
    quiet = ap (list_any begins_anew) (allowed_entries w c (w, Look x (EdgeOn d)) (EdgeIs (to v)) read) ∙ none (w == w)

    on : (r : Reply) → EdgeFate c.state w (Look x (EdgeOn d)) (next_in c (w, Look x (EdgeOn d))).state.memory r x d
        → edge (next_in c (w, Look x (EdgeOn d))).state.memory x d ≡ to v
    on r (Kept same) = same ∙ read0
    on r (IsLinked leaf new n event reply was now) = absurd (differ event)
      where
        differ : Look x (EdgeOn d) ≡ Link x d leaf new → ⊥
        differ e = cc
    on r (IsFlagged leaf n event reply was now) = absurd (differ event)
      where
        differ : Look x (EdgeOn d) ≡ Flag x d leaf → ⊥
        differ e = cc
    on r (IsTagged event reply now) = absurd (differ event)
      where
        differ : Look x (EdgeOn d) ≡ Tag x d → ⊥
        differ e = cc
    on r (IsSpliced y p keep ns event reply was now) = absurd (differ event)
      where
        differ : Look x (EdgeOn d) ≡ Splice x d y p keep → ⊥
        differ e = cc
    on r (IsSwapped leaf new ns event reply was now) = absurd (differ event)
      where
        differ : Look x (EdgeOn d) ≡ Swap x d leaf new → ⊥
        differ e = cc

    by : TurnFate c (w, Look x (EdgeOn d)) x d → edge (next_in c (w, Look x (EdgeOn d))).state.memory x d ≡ to v
    by (Refuses q told same) = absurd (no_reply q (EdgeIs (to v)) (sym told ∙ read))
    by (Makes r told fate) = on r fate

pub lost_tries_are_to_others : OfEachOrderedRun LostTriesAreToOthers
lost_tries_are_to_others L enough turns keys w x d v t = go
    (stays_or_changed L enough w x d v t.between between_keys c1 o1 left.0 left.1 t.stands t.not_own)
  where
    c0 : Configuration
    c0 = after_in (ordered L) t.before

    c1 : Configuration
    c1 = behind_look L t.before w x d

    run_keys : All (λ t. HasKey t.1) (t.before ++ (w, Look x (EdgeOn d)) ∷ (t.between ++ (w, t.exchange) ∷ t.since))
    run_keys = subst (λ (l : List (ℕ × Event)). All (λ t. HasKey t.1) l) t.is_run keys

    o0 : IsOrdered L (after_in (ordered L) t.before)
    o0 = each_ordered L enough t.before (first_keys t.before _ run_keys)

    o1 : IsOrdered L (behind_look L t.before w x d)
    o1 = ordered_next L enough c0 (w, Look x (EdgeOn d)) tt o0

    between_keys : All (λ t. HasKey t.1) t.between
    between_keys = first_keys t.between ((w, t.exchange) ∷ t.since)
        (λ i e below. later_keys t.before _ run_keys (suc i) e (omega (arith, below)))

    left : (knows (of (behind_look L t.before w x d).state w) x ≡ true)
        × (edge (behind_look L t.before w x d).state.memory x d ≡ to v)
    left = look_leaves L enough c0 o0 w x d v t.known t.read

    go : IsChangedByAnother (behind_look L t.before w x d) t.between w x d v
        ⊎ (edge (after_in (behind_look L t.before w x d) t.between).state.memory x d ≡ to v)
        → IsChangedByAnother (behind_look L t.before w x d) t.between w x d v
    go (inl changed) = changed
    go (inr same) = absurd (never_lost (after_in c1 t.between).state w x d v t.exchange t.found t.expects same
        (answered_so (after_in c1 t.between) w t.exchange (Lost t.found) t.lost).1)
