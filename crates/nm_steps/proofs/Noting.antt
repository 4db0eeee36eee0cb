-- What a step leaves of a pass: the epochs that it mirrors, and its log, which is a part of a run
-- still.
use Rattle.std.proofs.Common.{◌≡◌, ◌≢◌, ℕ, ◌<◌, ◌≤◌, ◌+◌, ◌==◌, Bool, true, false, ◌||◌, cond, List, [], ◌∷◌, ◌++◌, length, refl, sym, ap, subst, ◌∙◌, eq-eqb, true≢false, arith}
use Rattle.std.specs.Prelude.{Option, Some, None, IfSome}
use Rattle.nm_model.specs.Maps.{is_number}
use Rattle.std.proofs.lemmas.Bool.{cond_both, ne_eqb}
use Rattle.atomic_table.specs.Table.{Me}
use Rattle.atomic_table.specs.Seated.{TableId}
use Rattle.atomic_table.specs.declared.shared.Seat.{Seat}
use Rattle.nm_edge.specs.Layouts.{Layout, IsLayout}
use Rattle.nm_edge.specs.Words.{at_announcement, word}
use Rattle.nm_model.specs.declared.event.Event.{Event}
use Rattle.nm_model.specs.declared.event.Event.TheVariants.{Sight, SightFor, Announce, Leave, LeaveWith, Scan, Advance, Claim, Give, Look, Fill, Link, Flag, Tag, Splice, Swap, Join}
use Rattle.nm_model.specs.declared.reply.Reply.{Reply}
use Rattle.nm_model.specs.declared.reply.Reply.TheVariants.{Saw, Labelled, Pinned, Missed, Announced, Departed, Moved, Behind, Claimed, Returned, Freed, Filled, Linked, Flagged, Was, Cut, Lost, Joined}
use Rattle.nm_model.specs.declared.knowledge.Brief.{Brief}
use Rattle.nm_model.specs.Knowledge.{Knowledge, is_private}
use Rattle.nm_model.specs.Learning.{learn, learn_sight, resigned, inheriting}
use Rattle.nm_model.specs.Step.{last_number, refusal}
use Rattle.nm_model.specs.Walks.{Entry}
use Rattle.nm_model.specs.Ordered.{ordered, after_in, trace_in}
use Rattle.nm_order.specs.Hands.{IsPooled}
use Rattle.nm_order.specs.Logs.{is_leaver, part_of, known_by, IsLogOf}
use Rattle.nm_order.specs.OwnBirths.{births_by}
use Rattle.nm_laws.proofs.Learned.{scan_teaches, look_teaches}
use Rattle.nm_steps.specs.Packing.{word_at, touched_field}
use Rattle.nm_steps.specs.Told.{told}
use Rattle.nm_steps.specs.declared.view.View.{View}
use Rattle.std.proofs.lemmas.List.{length-append, same_from_push}
use Rattle.nm_steps.specs.Rules.{LinkHasValue, StoredBefore, knowledge, known_births, answered_turn, logged, is_store, IsFound}
use Rattle.nm_steps.specs.Steps.{PassView, May, IsReadyFor, IsDone, Stepped, HasTurn, IsOfRun, IsInRun, HasSeen, Tied, Laid, noted_sight, TakesStep}
use Rattle.nm_steps.proofs.Presence.{gone_kept, known_push}
use Rattle.nm_steps.proofs.Asking.{within, seen_small, private_pooled}
use Rattle.nm_steps.proofs.Extending.{IsPartOf, trace_after}
use Rattle.nm_steps.proofs.Keeping.{no_leaver, part_grows}
use Rattle.nm_steps.proofs.StoreOrders.{stored_longer}
use Rattle.nm_laws.proofs.Configurations.{keys_more}

-- the brief behind an event with its reply
abbrev pub noted : Brief → Event → Reply → Brief
noted b Sight r = noted_sight b r
noted b (SightFor op key) r = noted_sight b r
noted b Announce (Announced e) = record b { announcement = Some e }
noted b Leave Departed = record b { announcement = None; pin = None }
noted b (LeaveWith answer) Departed = record b { announcement = None; pin = None }
noted b Advance (Moved e) = record b { seen = Some e }
noted b Advance (Behind e) = record b { seen = Some e }
noted b (Splice a side s p keep) (Cut ns) = record b { unlabelled = true }
noted b (Swap p side leaf new) (Cut ns) = record b { unlabelled = true }
noted b _ _ = b

-- ---- epochs

brief_sight : (k : Knowledge) (r : Reply) → (learn_sight k r).brief ≡ noted_sight k.brief r
brief_sight k (Saw e) = refl
brief_sight k (Labelled e) = refl
brief_sight k (Pinned e) = refl
brief_sight k (Missed e) = refl
brief_sight k _ = refl

pub brief_is_noted : (w : ℕ) (k : Knowledge) (e : Event) (r : Reply) → (learn w k e r).brief ≡ noted k.brief e r
unfolding learn
brief_is_noted w k Sight r = brief_sight k r
brief_is_noted w k (SightFor op key) r = brief_sight k r
brief_is_noted w k Announce (Announced e) = refl
brief_is_noted w k Leave Departed = refl
brief_is_noted w k (LeaveWith answer) Departed = refl
brief_is_noted w k (Scan u) r = ap (λ (l : Knowledge). l.brief) (scan_teaches k u r)
brief_is_noted w k Advance (Moved e) = refl
brief_is_noted w k Advance (Behind e) = refl
brief_is_noted w k (Claim s) (Claimed t) = refl
brief_is_noted w k (Give s) (Returned t) = refl
brief_is_noted w k (Give s) (Freed m) = refl
brief_is_noted w k (Look s f) r = ap (λ (l : Knowledge). l.brief) (look_teaches k s f r)
brief_is_noted w k (Fill s f v) Filled = refl
brief_is_noted w k (Link p side leaf new) (Linked m) = refl
brief_is_noted w k (Link p side leaf new) (Lost e) = refl
brief_is_noted w k (Flag p side leaf) (Flagged m) = refl
brief_is_noted w k (Flag p side leaf) (Lost e) = refl
brief_is_noted w k (Tag p side) (Was e) = refl
brief_is_noted w k (Splice a side s p keep) (Cut ns) = refl
brief_is_noted w k (Splice a side s p keep) (Lost e) = refl
brief_is_noted w k (Swap p side leaf new) (Cut ns) = refl
brief_is_noted w k (Swap p side leaf new) (Lost e) = refl
brief_is_noted w k (Join v) (Joined ls) = cond_both (w == v) (resigned k) (inheriting k ls) (λ x. x.brief ≡ k.brief)
    (λ _. refl) (λ _. refl)
brief_is_noted w k _ _ = refl

-- ---- logs

-- the reply to a store does not depend on the word
store_is_blind : (L : Layout) (k : Knowledge) (births : ℕ → Option ℕ) (e : Event) (n m : ℕ) → is_store e ≡ true
    → told L k births e n ≡ told L k births e m
store_is_blind L k births Announce n m is = refl
store_is_blind L k births Leave n m is = refl
store_is_blind L k births (LeaveWith answer) n m is = refl
store_is_blind L k births (Fill s f v) n m is = refl
store_is_blind L k births e n m is = absurd (true≢false (sym is))

module _ (L : Layout) (w : ℕ) (log : List Entry) (e : Event) (n : ℕ) (f : IsFound L w log e n)
    (may : May L w log e) where
  part : IsPartOf L w log f.turns
  part = record { fits = f.fits; keys = f.keys; worker = f.worker; is_part = f.is_part; here = f.here }

  reply_is : told L (known_by L w log) (births_by L w log) e
      (word_at L (after_in (ordered L) f.turns).state.memory (touched_field w e))
      ≡ told L (known_by L w log) (births_by L w log) e n
  reply_is = go (is_store e) refl
    where
      go : (b : Bool) → is_store e ≡ b → told L (known_by L w log) (births_by L w log) e
          (word_at L (after_in (ordered L) f.turns).state.memory (touched_field w e))
          ≡ told L (known_by L w log) (births_by L w log) e n
      go true is = store_is_blind L (known_by L w log) (births_by L w log) e _ n is
      go false is = ap (told L (known_by L w log) (births_by L w log) e) (sym (f.word is))

  -- the turns of the longer run
  pub seen_is : trace_in (ordered L) f.turns ++ answered_turn w e (told L (known_by L w log) (births_by L w log) e n)
      ∷ [] ≡ trace_in (ordered L) (f.turns ++ (w, e) ∷ [])
  seen_is = sym (trace_after L w log f.turns part e may
      ∙ ap (λ (r : Reply). trace_in (ordered L) f.turns ++ answered_turn w e r ∷ []) reply_is)

  -- the longer log is a part of a run too
  pub log_grows : IsLogOf L w (log ++ (e, told L (known_by L w log) (births_by L w log) e n) ∷ [])
  log_grows = record {
    worker = f.worker;
    turns = f.turns ++ (w, e) ∷ [];
    keys = keys_more f.turns (w, e) f.keys may.key;
    is_part =
        ap (part_of w) (trace_after L w log f.turns part e may)
        ∙ (part_grows w (trace_in (ordered L) f.turns) w e _ (ap (λ (b : Bool). b || is_leaver w e) (eq-eqb w w refl))
        ∙ (ap (λ (r : Reply). part_of w (trace_in (ordered L) f.turns) ++ (e, r) ∷ []) reply_is
        ∙ ap (λ (l : List Entry). l ++ (e, told L (known_by L w log) (births_by L w log) e n) ∷ []) (sym f.is_part)));
  }

  -- and its worker has not resigned in it
  pub run_grows : IsOfRun L w (log ++ (e, told L (known_by L w log) (births_by L w log) e n) ∷ [])
  run_grows = record {
    is_part = log_grows;
    here = ap (λ (k : Knowledge). k.gone) (known_push w L log (e, told L (known_by L w log) (births_by L w log) e n))
        ∙ (gone_kept w (known_by L w log) e (told L (known_by L w log) (births_by L w log) e n)
        (no_leaver L w log e may w) ∙ f.here);
  }

-- what has been seen after a step has the log as its part
seen_after : (v : View) (e : Event) (n : ℕ) (f : IsFound v.layout v.number v.log e n) → May v.layout v.number v.log e
    → HasSeen (logged v e n (trace_in (ordered v.layout) f.turns))
unfolding log_grows
seen_after v e n f may =
    let longer = log_grows v.layout v.number v.log e n f may in
    let are = seen_is v.layout v.number v.log e n f may in
    record {
      worker = longer.worker;
      events = longer.turns;
      keys = longer.keys;
      are = are;
      is_part = ap
          (part_of v.number) are ∙ longer.is_part;
      here = (run_grows v.layout v.number v.log e n f may).here;
    }

-- ---- a pass before and after a step

-- a pass as clauses see it
abbrev pub standing : Seat Unit View → PassView
standing it = record { table = it.table_id; seat = it.id; view = it.me.0 }

-- the event with some reply is in the log, and is the last turn that has been seen
pub record HasTurned (p q : PassView) (e : Event) : Type 0 where
  pub reply : Reply
  pub log : q.view.log ≡ p.view.log ++ (e, reply) ∷ []
  pub turn : HasTurn p q e reply

-- the turn of the step is the last that has been seen
pub has_turned : (it after : Seat Unit View) (e : Event) (n : ℕ) → IsDone it after e n
    → HasTurned (standing it) (standing after) e
has_turned it after e n done = record {
  reply = told it.me.0.layout (knowledge it.me.0) (known_births it.me.0) e n;
  log = ap (λ (m : View × List (ℕ × Unit)). m.0.log) done.me;
  turn = record {
    before = trace_in (ordered it.me.0.layout) done.found.turns;
    extends = done.past;
    is = ap
        (λ (m : View × List (ℕ × Unit)). m.0.past) done.me;
  };
}

-- with the reply that the log tells
pub has_turn : (p q : PassView) (e : Event) (r : Reply) → Stepped p q e r → HasTurned p q e → HasTurn p q e r
has_turn p q e r step t = subst (HasTurn p q e) (ap (λ (x : Entry). x.1)
    (same_from_push p.view.log p.view.log (e, t.reply) (e, r)
    (sym t.log ∙ ap (λ (z : PassView). z.view.log) step)).1) t.turn

-- the epoch last read, if there is one, is no greater than the greatest
small_seen : (o : Option ℕ) → ((s : ℕ) → o ≡ Some s → s ≤ last_number) → IfSome o (λ e. e ≤ last_number)
small_seen None small = tt
small_seen (Some s) small = small s refl

pub ready : (z : TableId) (key L : Layout) (it : Seat Unit View) (number announcement : ℕ) (brief : Brief)
    (e : Event) (i : ℕ)
    → Laid z key L → Tied it number announcement brief → it.table_id ≡ z → it.me.0.layout ≡ L
    → May it.me.0.layout it.me.0.number it.me.0.log e → i ≡ word L (touched_field number e)
    → LinkHasValue z.slots it.me.0 e → IsReadyFor (record { table = z; layout = L }) it e i
ready z key L it number announcement brief e i laid tied table same may index stored =
    let k : May L it.me.0.number it.me.0.log e = subst (λ (l : Layout). May l it.me.0.number it.me.0.log e) same may in
    let own : it.me.0.number < L.workers = subst (λ (n : ℕ). n < L.workers) tied.number_is
    (subst (λ (l : Layout). number < l.workers) same tied.worker) in
    record {
      table = table;
      words = laid.words_are;
      empty = tied.empty;
      alive = tied.alive;
      layout = same;
      within = within L it.me.0.number it.me.0.log own e k;
      word = index ∙ ap (λ (w : ℕ). word L (touched_field w e)) tied.number_is;
      may = k;
      stored = stored;
    }

-- the word of a pass's announcement is the one that its announcement has in the table
pub announcement_in : (L : Layout) (it : Seat Unit View) (number announcement : ℕ) (brief : Brief)
    → Tied it number announcement brief → it.me.0.layout ≡ L → announcement ≡ word L (at_announcement number)
announcement_in L it number announcement brief tied same = tied.announcement_is
    ∙ ap (λ (l : Layout). word l (at_announcement number)) same

-- the layout that the table was made for is the one of its rule
pub ready_by_key : (z : TableId) (key L : Layout) (it : Seat Unit View) (e : Event) (i : ℕ) → Laid z key L
    → IsReadyFor (record { table = z; layout = L }) it e i → IsReadyFor (record { table = z; layout = key }) it e i
ready_by_key z key L it e i laid r = subst (λ (l : Layout). IsReadyFor (record { table = z; layout = l }) it e i)
    (sym laid.key_is) r

-- after a step its log is of a run
pub in_run_after : (it after : Seat Unit View) (number announcement : ℕ) (brief : Brief) (e : Event) (n : ℕ)
    → Tied it number announcement brief → May it.me.0.layout it.me.0.number it.me.0.log e → IsDone it after e n
    → IsInRun (standing after)
in_run_after it after number announcement brief e n tied may done =
    let me : after.me.0 ≡ logged it.me.0 e n (trace_in (ordered it.me.0.layout) done.found.turns) = ap (λ m. m.0)
    done.me in
    record {
      fits = subst (λ (v : View). IsLayout v.layout) (sym me) tied.fits;
      run = subst (λ (v : View). IsOfRun v.layout v.number v.log) (sym me)
          (run_grows it.me.0.layout it.me.0.number it.me.0.log e n done.found may);
    }

-- what is done is a step of the pass, as clauses see it
pub takes_step : (it after : Seat Unit View) (number announcement : ℕ) (brief : Brief) (e : Event) (n : ℕ)
    (p : PassView) (r : Reply) → Tied it number announcement brief → May it.me.0.layout it.me.0.number it.me.0.log e
    → IsDone it after e n
    → Stepped p (standing after) e r → standing it ≡ p → TakesStep p (standing after) e r
takes_step it after number announcement brief e n p r tied may done step is = record {
  step = step;
  past = has_turn p (standing after) e r step (subst (λ (x : PassView). HasTurned x (standing after) e) is
      (has_turned it after e n done));
  run = in_run_after it after number announcement brief e n tied may done;
  stores = ap (λ (m : Me Unit View). m.0.stores) done.me ∙ ap (λ (x : PassView). x.view.stores) is;
}

pub tied_after : (it after : Seat Unit View) (number announcement : ℕ) (brief new : Brief) (e : Event) (n : ℕ)
    → Tied it number announcement brief → May it.me.0.layout it.me.0.number it.me.0.log e → IsDone it after e n
    → new ≡ noted brief e (told it.me.0.layout (knowledge it.me.0) (known_births it.me.0) e n)
    → Tied after number announcement new
tied_after it after number announcement brief new e n tied may done is =
    let me : after.me.0 ≡ logged it.me.0 e n (trace_in (ordered it.me.0.layout) done.found.turns) = ap (λ m. m.0)
    done.me in
    let r : Reply = told it.me.0.layout (knowledge it.me.0) (known_births it.me.0) e n in
    let longer : IsLogOf it.me.0.layout it.me.0.number (it.me.0.log ++ (e, r) ∷ []) = log_grows it.me.0.layout
    it.me.0.number it.me.0.log e n done.found may in
    let epochs : new ≡ (known_by it.me.0.layout it.me.0.number (it.me.0.log ++ (e, r) ∷ [])).brief =
    is ∙ (ap (λ (b : Brief). noted b e r) tied.brief_is
    ∙ (sym (brief_is_noted it.me.0.number (knowledge it.me.0) e r)
    ∙ sym (ap (λ (k : Knowledge). k.brief) (known_push it.me.0.number it.me.0.layout it.me.0.log (e, r))))) in
    record {
      empty = ap (λ m. m.1) done.me ∙ tied.empty;
      alive = ap (λ (v : View). v.resigned) me ∙ tied.alive;
      number_is = tied.number_is ∙ sym (ap (λ (v : View). v.number) me);
      announcement_is = tied.announcement_is ∙ sym (ap (λ (v : View). word v.layout (at_announcement number)) me);
      brief_is = epochs ∙ sym (ap (λ (v : View). (knowledge v).brief) me);
      fits = subst (λ (v : View). IsLayout v.layout) (sym me) tied.fits;
      worker = subst (λ (v : View). number < v.layout.workers) (sym me) tied.worker;
      small = small_seen new.seen (λ s at. seen_small it.me.0.layout it.me.0.number (it.me.0.log ++ (e, r) ∷ [])
          tied.fits longer s (sym (ap (λ (b : Brief). b.seen) epochs) ∙ at));
      private = subst (λ (v : View). (x : ℕ) → is_private (knowledge v) x ≡ true → IsPooled v.layout x) (sym me)
          (private_pooled it.me.0.layout it.me.0.number (it.me.0.log ++ (e, r) ∷ []) tied.fits longer);
      seen = subst HasSeen (sym me) (seen_after it.me.0 e n done.found may);
      heard = ap (λ (v : View). v.heard) me ∙ tied.heard;
      heard_stores = ap (λ (v : View). v.heard_stores) me ∙ tied.heard_stores;
      stored = subst (λ (v : View). StoredBefore v.number (length v.log + 1) v.stores) (sym me)
          (stored_longer it.me.0.number (length it.me.0.log + 1) (length (it.me.0.log ++ (e, r) ∷ []) + 1)
          it.me.0.stores (let long = length-append it.me.0.log ((e, r) ∷ []) in omega (arith, long)) tied.stored);
    }

-- ---- a sight is always allowed

pub may_sight : (L : Layout) (w : ℕ) (log : List Entry) → May L w log Sight
unfolding refusal
may_sight L w log = record { looked = tt; allowed = λ m h. refl; ordered = refl; births = tt; key = tt }

-- ---- moving the epoch on

told_moved : (L : Layout) (k : Knowledge) (births : ℕ → Option ℕ) (seen : ℕ) → k.brief.seen ≡ Some seen
    → told L k births Advance seen ≡ Moved (seen + 1)
told_moved L k births seen is = ap (λ o. cond (is_number o seen) (Moved (seen + 1)) (Behind seen)) is
    ∙ ap (λ (b : Bool). cond b (Moved (seen + 1)) (Behind seen)) (eq-eqb seen seen refl)

told_behind : (L : Layout) (k : Knowledge) (births : ℕ → Option ℕ) (seen n : ℕ) → k.brief.seen ≡ Some seen → n ≢ seen
    → told L k births Advance n ≡ Behind n
told_behind L k births seen n is other = ap (λ o. cond (is_number o n) (Moved (n + 1)) (Behind n)) is
    ∙ ap (λ (b : Bool). cond b (Moved (n + 1)) (Behind n)) (ne_eqb seen n (λ e. other (sym e)))

pub noted_moved : (L : Layout) (k : Knowledge) (births : ℕ → Option ℕ) (b : Brief) (seen n : ℕ) → b ≡ k.brief
    → b.seen ≡ Some seen → n ≡ seen → record b { seen = Some (seen + 1) } ≡ noted b Advance (told L k births Advance n)
noted_moved L k births b seen n same is at = sym
    (ap (λ (m : ℕ). noted b Advance (told L k births Advance m)) at
    ∙ ap (noted b Advance) (told_moved L k births seen (sym (ap (λ (x : Brief). x.seen) same) ∙ is)))

pub noted_behind : (L : Layout) (k : Knowledge) (births : ℕ → Option ℕ) (b : Brief) (seen n : ℕ) → b ≡ k.brief
    → b.seen ≡ Some seen → n ≢ seen → record b { seen = Some n } ≡ noted b Advance (told L k births Advance n)
noted_behind L k births b seen n same is other = sym
    (ap (noted b Advance) (told_behind L k births seen n (sym (ap (λ (x : Brief). x.seen) same) ∙ is) other))
