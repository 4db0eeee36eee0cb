-- What is touched was told, what was told stays, and only holders store: of the turns of every run.
use Rattle.std.proofs.Common.{◌≡◌, ◌≢◌, ℕ, ◌≤◌, Bool, true, false, List, ◌∷◌, ◌++◌, append_assoc, refl, sym, ap, subst, ◌∙◌, arith}
use Rattle.std.specs.Prelude.{Option, Some, None, Result, Ok, Err, Contains, All}
use Rattle.std.specs.List.{list_any}
use Rattle.std.proofs.lemmas.Bool.{false_from_ne_true}
use Rattle.nm_edge.specs.Layouts.{Layout, IsLayout}
use Rattle.nm_model.specs.declared.event.Field.{Field}
use Rattle.nm_model.specs.declared.event.Field.TheVariants.{Edge as EdgeOn}
use Rattle.nm_model.specs.declared.event.Event.{Event}
use Rattle.nm_model.specs.declared.event.Event.TheVariants.{Look, Fill, Link, Flag, Tag, Splice, Swap}
use Rattle.nm_model.specs.declared.reply.Reply.{Reply}
use Rattle.nm_model.specs.declared.reply.Reply.TheVariants.{Filled}
use Rattle.nm_model.specs.declared.reply.Refused.{Refused}
use Rattle.nm_model.specs.declared.trace.Turn.{Turn}
use Rattle.nm_model.specs.Memory.{Memory, node, in_pool, opening}
use Rattle.nm_model.specs.Knowledge.{Knowledge, knows, is_private}
use Rattle.nm_model.specs.Lawful.{ReadsStand}
use Rattle.nm_model.specs.Runs.{of, reply_of}
use Rattle.nm_model.specs.Ordered.{Configuration, HasKey, opening_of, refused_in, next_in, applied_in, outcome_in, after_in, trace_in}
use Rattle.nm_laws.proofs.Steps.{Allowed, allowed}
use Rattle.nm_laws.proofs.Configurations.{refused_outcome, allowed_next, allowed_outcome, after_in-append, reached_state, allowed_by_state}
use Rattle.nm_laws.proofs.Lawful.{IsLawful}
use Rattle.nm_laws.proofs.LawfulRuns.{lawful_state}
use Rattle.nm_laws.proofs.KnownBirths.{written_same}
use Rattle.nm_laws.proofs.Pictures.{IsLive}
use Rattle.nm_laws.proofs.Views.{view}
use Rattle.nm_laws.proofs.TreeSteps.{fill_checked}
use Rattle.nm_order.proofs.CallWalks.{own_knows, memory_after}
use Rattle.nm_order.proofs.WalksOfRuns.{trace_in-append, all_before}
use Rattle.nm_model.specs.Headline.{leaves, has_after, words_after, touched, edge_told, HasLeft, WasTold, OnlyWhatWasToldIsTouched, IsStill, OnlyHoldersStore}
use Rattle.nm_theorem.proofs.Runs.{Parts, parts_of, Head, head_of, told_in, reached_opening, lawful_opening, lawful_next, lawful_after}
use Rattle.nm_theorem.proofs.WrittenWords.{run_words}
use Rattle.nm_theorem.proofs.CutsOfRuns.{reached_after}
use Rattle.nm_theorem.proofs.Hands.{run_hands}
use Rattle.nm_theorem.proofs.StaysOfRuns.{touch_known, Still, turns_stay, live, one_first, trace_first, was_allowed}
use Rattle.nm_theorem.proofs.Learns.{told_known}
use Rattle.nm_theorem.proofs.ToldOfRuns.{are_told}

-- ---- a telling turn

told_err : (e : Event) (q : Refused) → edge_told e (Err q) ≡ None
told_err (Look y (EdgeOn d)) q = refl
told_err (Link p d leaf new) q = refl
told_err (Flag p d leaf) q = refl
told_err (Tag p d) q = refl
told_err (Splice a d y p keep) q = refl
told_err (Swap p d leaf new) q = refl
told_err e q = refl

no_pair : {x : ℕ × ℕ} → ◌≡◌ {A = Option (ℕ × ℕ)} None (Some x) → ⊥
no_pair e = cc

fill_tells_none : (e : Event) (o : Result Reply Refused) (y v : ℕ) (f : Field) (z : ℕ × ℕ) → e ≡ Fill y f v
    → edge_told e o ≡ Some z → ⊥
fill_tells_none e o y v f z is told = no_pair (ap (λ (a : Event). edge_told a o) (sym is) ∙ told)

-- behind it the worker knows the slot, and its birth is what it was
telling : (c : Configuration) (t : ℕ × Event) (from x : ℕ) → IsLawful c.state
    → edge_told t.1 (outcome_in c t) ≡ Some (from, x) → x ≢ 0 → is_private (of c.state t.0) from ≡ false
    → Still t.0 x c.state (next_in c t).state
unfolding applied_in
telling c t from x l told some free = go (refused_in c t.0 t.1) refl
  where
    go : (o : Option Refused) → refused_in c t.0 t.1 ≡ o → Still t.0 x c.state (next_in c t).state
    go (Some q) is = absurd (no_pair (sym (ap (edge_told t.1) (refused_outcome c t q is) ∙ told_err t.1 q) ∙ told))
    go None is = subst (λ (d : Configuration). Still t.0 x c.state d.state) (sym (allowed_next c t is)) (record {
      known = ap (λ (k : Knowledge). knows k x) (own_knows c.state l.holder l.law t.0 t.1 ok)
          ∙ told_known c.state l.holder l.law t.0 t.1 (reply_of c.state t.0 t.1) from x
          (ap (edge_told t.1) (sym (allowed_outcome c t is)) ∙ told) some free;
      birth = ap (λ (m : Memory). (node m x).birth) (memory_after c.state t.0 t.1)
          ∙ (written_same c.state.memory (of c.state t.0) t.0 t.1 x
          (λ y f v fills. absurd (fill_tells_none t.1 (outcome_in c t) y v f (from, x) fills told))).birth;
    })
      where
        ok : Allowed c.state t.0 t.1
        ok = allowed c.state t.0 t.1 (allowed_by_state c t.0 t.1 is)

-- ---- runs

module _ (L : Layout) (fits : IsLayout L) (b : Bool) (ts : List (ℕ × Event)) (keys : All (λ t. HasKey t.1) ts) where
  -- the configuration before a turn, and its event
  record At (before rest : List Turn) (t : Turn) : Type 0 where
    early : List (ℕ × Event)
    late : List (ℕ × Event)
    event : ℕ × Event
    before_is : before ≡ trace_in (opening_of L b) early
    turn_is : t ≡ told_in (after_in (opening_of L b) early) event
    rest_is : rest ≡ trace_in (next_in (after_in (opening_of L b) early) event) late
    lawful : IsLawful (after_in (opening_of L b) early).state
    stand : (w : ℕ) → ReadsStand (after_in (opening_of L b) early).state w

  at : (before rest : List Turn) (t : Turn) → trace_in (opening_of L b) ts ≡ before ++ t ∷ rest → At before rest t
  at before rest t all =
      let p : Parts (opening_of L b) ts before (t ∷ rest) = parts_of (opening_of L b) ts before (t ∷ rest) all in
      let h : Head (after_in (opening_of L b) p.early) p.late t rest = head_of (after_in (opening_of L b) p.early)
      p.late t rest (sym p.rest_is) in
      let early_keys : All (λ t. HasKey t.1) p.early = all_before (λ (u : ℕ × Event). HasKey u.1) p.early p.late
      (subst (λ (us : List (ℕ × Event)). All (λ t. HasKey t.1) us) p.all keys) in
      record {
        early = p.early;
        late = h.others;
        event = h.event;
        before_is = p.first_is;
        turn_is = h.turn_is;
        rest_is = h.rest_is;
        lawful = lawful_after p.early (opening_of L b) (lawful_opening L fits b);
        stand = (lawful_state (after_in (opening_of L b) p.early).state
            (reached_state (after_in (opening_of L b) p.early)
            (reached_after p.early (opening_of L b) (reached_opening L fits b) early_keys))).marks;
      }

  module _ (before rest : List Turn) (t : Turn) (a : At before rest t) where
    abbrev c : Configuration
    c = after_in (opening_of L b) a.early

    worker_is : t.worker ≡ a.event.0
    worker_is = ap (λ (u : Turn). u.worker) a.turn_is

    event_is : t.event ≡ a.event.1
    event_is = ap (λ (u : Turn). u.event) a.turn_is

    outcome_is : t.outcome ≡ outcome_in c a.event
    outcome_is = ap (λ (u : Turn). u.outcome) a.turn_is

    hands_are : (x : ℕ) → has_after (opening L) t.worker x false before ≡ is_private (of c.state a.event.0) x
    hands_are x = (λ i. has_after (opening L) (worker_is i) x false (a.before_is i))
        ∙ run_hands a.event.0 x L fits b a.early

    words_are : words_after L before ≡ c.state.memory
    words_are = ap (words_after L) a.before_is ∙ run_words L fits b a.early

    is_allowed : (r : Reply) → t.outcome ≡ Ok r → Allowed c.state a.event.0 a.event.1
    is_allowed r answer = allowed c.state a.event.0 a.event.1
        (allowed_by_state c a.event.0 a.event.1 (was_allowed c a.event r (sym outcome_is ∙ answer)))

    touched_told : (r : Reply) (x : ℕ) → t.outcome ≡ Ok r → Contains (touched t.event) x → 3 ≤ x
        → has_after (opening L) t.worker x false before ≡ false → WasTold L t.worker x before
    touched_told r x answer touches six free = subst (λ (v : ℕ). WasTold L v x before) (sym worker_is)
        (subst (λ (us : List Turn). WasTold L a.event.0 x us) (sym a.before_is)
        ((are_told L fits b a.early).told a.event.0 x six known))
      where
        known : knows (of c.state a.event.0) x ≡ true
        known = touch_known c.state a.lawful.holder a.lawful.law a.event.0 x (sym (hands_are x) ∙ free)
            (a.stand a.event.0) a.event.1 (is_allowed r answer)
            (subst (λ (e : Event). Contains (touched e) x) event_is touches)

    stored_own : (s v : ℕ) (f : Field) → t.event ≡ Fill s f v → t.outcome ≡ Ok Filled
        → has_after (opening L) t.worker s false before ≡ true
    stored_own s v f is answer = hands_are s ∙ fill_checked c.state a.event.0 a.event.1
        (is_allowed Filled answer).event s f v (sym event_is ∙ is)

  telling_stays : (before between rest : List Turn) (t : Turn) (from x : ℕ)
      → trace_in (opening_of L b) ts ≡ before ++ t ∷ (between ++ rest) → edge_told t.event t.outcome ≡ Some (from, x)
      → has_after (opening L) t.worker from false before ≡ false → 1 ≤ x
      → (HasLeft t.worker between → ⊥) → IsStill L before (before ++ t ∷ between) x
  telling_stays before between rest t from x all tells free least stayed = record {
    pooled = ap (λ (m : Memory). in_pool m x) now_words ∙ there.pooled;
    in_hands = λ u. now_hands u ∙ there.shared u;
    birth = ap (λ (m : Memory). (node m x).birth) now_words
        ∙ (still.birth ∙ (first.birth ∙ ap (λ (m : Memory). (node m x).birth)
        (sym (words_are before (between ++ rest) t a))));
  }
    where
      a : At before (between ++ rest) t
      a = at before (between ++ rest) t all

      d : Configuration
      d = after_in (opening_of L b) a.early

      q : Parts (next_in d a.event) a.late between rest
      q = parts_of (next_in d a.event) a.late between rest (sym a.rest_is)

      end : Configuration
      end = after_in (next_in d a.event) q.early

      w_is : t.worker ≡ a.event.0
      w_is = ap (λ (u : Turn). u.worker) a.turn_is

      whole : List (ℕ × Event)
      whole = a.early ++ a.event ∷ q.early

      whole_leads : after_in (opening_of L b) whole ≡ end
      whole_leads = led
        where
          led : after_in (opening_of L b) (a.early ++ a.event ∷ q.early) ≡ after_in (next_in d a.event) q.early
          led = after_in-append (opening_of L b) a.early (a.event ∷ q.early) ∙ one_first d a.event q.early

      whole_told : trace_in (opening_of L b) whole ≡ before ++ t ∷ between
      whole_told = trace_in-append (opening_of L b) a.early (a.event ∷ q.early)
          ∙ ((λ i. sym a.before_is i ++ trace_first d a.event q.early i)
          ∙ (λ i. before ++ sym a.turn_is i ∷ sym q.first_is i))

      slot : x ≢ 0
      slot none = omega (arith, least, none)

      first : Still a.event.0 x d.state (next_in d a.event).state
      first = telling d a.event from x a.lawful ((λ i. edge_told (sym a.turn_is i).event (sym a.turn_is i).outcome)
          ∙ tells) slot (sym (hands_are before (between ++ rest) t a from) ∙ free)

      still : Still a.event.0 x (next_in d a.event).state end.state
      still = turns_stay a.event.0 x q.early (next_in d a.event) (lawful_next d a.event a.lawful)
          (false_from_ne_true (list_any (leaves a.event.0) (trace_in (next_in d a.event) q.early))
          (λ is. stayed ((λ i. list_any (leaves (w_is i)) (q.first_is i)) ∙ is))) first.known

      there : IsLive (view end.state.memory (of end.state)
          (lawful_after q.early (next_in d a.event) (lawful_next d a.event a.lawful)).holder) x
      there = live a.event.0 x end.state (lawful_after q.early (next_in d a.event) (lawful_next d a.event a.lawful))
          still.known

      now_words : words_after L (before ++ t ∷ between) ≡ end.state.memory
      now_words = ap (words_after L) (sym whole_told)
          ∙ (run_words L fits b whole ∙ ap (λ (f : Configuration). f.state.memory) whole_leads)

      now_hands : (u : ℕ) → has_after (opening L) u x false (before ++ t ∷ between) ≡ is_private (of end.state u) x
      now_hands u = ap (has_after (opening L) u x false) (sym whole_told)
          ∙ (run_hands u x L fits b whole ∙ ap (λ (f : Configuration). is_private (of f.state u) x) whole_leads)

  pub touched_was_told : OnlyWhatWasToldIsTouched L (trace_in (opening_of L b) ts)
  touched_was_told before rest t r x all answer touches six free = touched_told before rest t (at before rest t all)
      r x answer touches six free

  pub told_stays : (so_far rest : List Turn) → trace_in (opening_of L b) ts ≡ so_far ++ rest → (w x : ℕ) → 1 ≤ x
      → (o : WasTold L w x so_far) → IsStill L o.before so_far x
  told_stays so_far rest all w x least o = subst (λ (us : List Turn). IsStill L o.before us x) (sym o.are)
      (telling_stays o.before o.since rest o.told o.from x
      (all ∙ (ap (λ (us : List Turn). us ++ rest) o.are ∙ append_assoc o.before (o.told ∷ o.since) rest)) o.edge
      (ap (λ (v : ℕ). has_after (opening L) v o.from false o.before) o.own ∙ o.free) least
      (λ left. o.stays ((λ i. list_any (leaves (sym o.own i)) o.since) ∙ left)))

  pub holders_store : OnlyHoldersStore L (trace_in (opening_of L b) ts)
  holders_store before rest t s v f all is answer = stored_own before rest t (at before rest t all) s v f is answer
