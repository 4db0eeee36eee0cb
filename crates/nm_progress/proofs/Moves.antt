-- The epoch grows by its moves, and a pin that is missed was moved past.
use Rattle.std.proofs.Common.{◌≡◌, ℕ, ◌+◌, ◌<◌, ◌≤◌, ◌==◌, Bool, true, false, cond, [], ◌∷◌, ◌++◌, refl, sym, ap, ◌∙◌, arith, true≢false}
use Rattle.std.specs.Prelude.{Option, Some, None, Result, Ok, Err, unwrap_or}
use Rattle.std.proofs.lemmas.Bool.{cond_both, eqb-false}
use Rattle.nm_edge.specs.Edges.{to, is_to}
use Rattle.nm_model.specs.declared.event.Event.{Event}
use Rattle.nm_model.specs.declared.event.Event.TheVariants.{Sight, SightFor, Announce, Advance, Link, Flag, Splice, Swap, Join}
use Rattle.nm_model.specs.declared.reply.Reply.{Reply}
use Rattle.nm_model.specs.declared.reply.Reply.TheVariants.{Saw, Labelled, Pinned, Announced, Missed, Moved, Behind}
use Rattle.nm_model.specs.declared.reply.Refused.{Refused}
use Rattle.nm_model.specs.Maps.{is_number}
use Rattle.nm_model.specs.Memory.{Memory, edge, put_edge}
use Rattle.nm_model.specs.Knowledge.{Knowledge, read}
use Rattle.nm_model.specs.Learning.{learn, flag_to}
use Rattle.nm_model.specs.Step.{reply, write, reply_sight, confirmed, kept}
use Rattle.nm_model.specs.Runs.{State, of, reply_of, applied}
use Rattle.nm_model.specs.Ordered.{Configuration, refused_in, applied_in, next_in, outcome_in, after_in, trace_in}
use Rattle.nm_laws.proofs.Configurations.{refused_next, refused_outcome, allowed_next, allowed_outcome}
use Rattle.nm_order.specs.Logs.{known_by}
use Rattle.nm_order.proofs.LastEntries.{known_more, PartOf, LastEntry, last_entry, log_before}
use Rattle.nm_order.proofs.LastEntries.PartOf.{Own, Resigns}
use Rattle.nm_order.proofs.OrderedLaws.{law_of_state}
use Rattle.nm_progress.specs.Moves.{moves_on, EpochsAreTheMoves, is_sight, MissedPinsAreMoves}
use Rattle.nm_progress.proofs.Covers.{one_if}

-- ---- the epoch

epoch_step : (s : State) (w : ℕ) (e : Event) → (write s.memory (of s w) w e).epoch
    ≡ s.memory.epoch + cond (moves_on e (Ok (reply_of s w e))) 1 0
unfolding write reply
epoch_step s w Advance = by (is_number (of s w).brief.seen s.memory.epoch)
  where
    by : (b : Bool) → (cond b (record s.memory { epoch = s.memory.epoch + 1 }) s.memory).epoch
        ≡ s.memory.epoch + cond (moves_on Advance (Ok (cond b (Moved (s.memory.epoch + 1)) (Behind s.memory.epoch))))
        1 0
    by true = refl
    by false = omega arith
epoch_step s w (Link p d leaf new) = cond_both (is_to (edge s.memory p d) leaf) (put_edge s.memory p d (to new))
    s.memory (λ m. m.epoch ≡ s.memory.epoch + 0) (λ _. omega arith) (λ _. omega arith)
epoch_step s w (Flag p d leaf) = cond_both (is_to (edge s.memory p d) leaf) (put_edge s.memory p d (flag_to leaf))
    s.memory (λ m. m.epoch ≡ s.memory.epoch + 0) (λ _. omega arith) (λ _. omega arith)
epoch_step s w (Splice a d x p keep) = cond_both (is_to (edge s.memory a d) x)
    (put_edge s.memory a d (kept (read (of s w) p keep))) s.memory (λ m. m.epoch ≡ s.memory.epoch + 0)
    (λ _. omega arith) (λ _. omega arith)
epoch_step s w (Swap p d leaf new) = cond_both (is_to (edge s.memory p d) leaf)
    (put_edge s.memory p d (to new)) s.memory (λ m. m.epoch ≡ s.memory.epoch + 0) (λ _. omega arith) (λ _. omega arith)
epoch_step s w e = omega arith

refused_moves : (e : Event) (q : Refused) → moves_on e (Err q) ≡ false
refused_moves Advance q = refl
refused_moves e q = refl

memory_then : (s : State) (w : ℕ) (e : Event) → (applied s w e).memory ≡ write s.memory (of s w) w e
unfolding applied
memory_then s w e = refl

pub epoch_turn : (c : Configuration) (t : ℕ × Event)
    → (next_in c t).state.memory.epoch ≡ c.state.memory.epoch + cond (moves_on t.1 (outcome_in c t)) 1 0
unfolding applied_in
epoch_turn c t = go (refused_in c t.0 t.1) refl
  where
    go : (q : Option Refused) → refused_in c t.0 t.1 ≡ q
        → (next_in c t).state.memory.epoch ≡ c.state.memory.epoch + cond (moves_on t.1 (outcome_in c t)) 1 0
    go (Some q) why =
        let same : (next_in c t).state.memory.epoch ≡ c.state.memory.epoch = ap
        (λ (d : Configuration). d.state.memory.epoch) (refused_next c t q why) in
        let none : cond (moves_on t.1 (outcome_in c t)) 1 0
        ≡ 0 = ap (λ (o : Result Reply Refused). one_if (moves_on t.1 o)) (refused_outcome c t q why)
        ∙ ap one_if (refused_moves t.1 q) in
        omega (arith, same, none)
    go None why = ap (λ (d : Configuration). d.state.memory.epoch) (allowed_next c t why)
        ∙ (ap (λ (m : Memory). m.epoch) (memory_then c.state t.0 t.1) ∙ (epoch_step c.state t.0 t.1
        ∙ ap (λ (o : Result Reply Refused). c.state.memory.epoch + one_if (moves_on t.1 o))
        (sym (allowed_outcome c t why))))

pub epochs_are_the_moves : EpochsAreTheMoves
unfolding after_in trace_in
epochs_are_the_moves c [] = omega arith
epochs_are_the_moves c (t ∷ ts) = let rest = epochs_are_the_moves (next_in c t) ts in let one = epoch_turn c t in
    omega (arith, rest, one)

-- ---- a pin that is missed

-- what a sight that missed tells
missed_shows : (k : Knowledge) (n e a : ℕ) → k.brief.announcement ≡ Some a → reply_sight k n ≡ Missed e
    → (n ≡ e) × ((a == n) ≡ false)
missed_shows k n e a noted is = by k.brief.unlabelled k.brief.pin
    (ap (λ (o : Option ℕ). cond k.brief.unlabelled (Labelled n) (confirmed k.brief.pin o n)) (sym noted) ∙ is)
  where
    on : (b : Bool) → (a == n) ≡ b → cond b (Pinned n) (Missed n) ≡ Missed e → (n ≡ e) × ((a == n) ≡ false)
    on true same told = absurd (differ told)
      where
        differ : Pinned n ≡ Missed e → ⊥
        differ i = cc
    on false same told = (cc, same)

    by : (b : Bool) (pin : Option ℕ) → cond b (Labelled n) (confirmed pin (Some a) n) ≡ Missed e
        → (n ≡ e) × ((a == n) ≡ false)
    by true pin told = absurd (differ told)
      where
        differ : Labelled n ≡ Missed e → ⊥
        differ i = cc
    by false (Some p) told = absurd (differ told)
      where
        differ : Saw n ≡ Missed e → ⊥
        differ i = cc
    by false None told = on (a == n) refl told

sight_replies : (s : State) (w : ℕ) (e : Event) → is_sight e ≡ true
    → reply_of s w e ≡ reply_sight (of s w) s.memory.epoch
unfolding reply
sight_replies s w Sight is = refl
sight_replies s w (SightFor op key) is = refl
sight_replies s w e is = absurd (true≢false (sym is))

not_join : (e : Event) (v : ℕ) → is_sight e ≡ true → e ≡ Join v → ⊥
not_join e v is at = true≢false (sym is ∙ ap is_sight at)

announced_so : (s : State) (w : ℕ) → reply_of s w Announce ≡ Announced (unwrap_or (of s w).brief.seen 0)
unfolding reply
announced_so s w = refl

same_announced : (a b : ℕ) → Announced a ≡ Announced b → a ≡ b
same_announced a b e = cc

noted : (w : ℕ) (k : Knowledge) (a : ℕ) → ((learn w k Announce (Announced a)).brief.announcement ≡ Some a)
    × ((learn w k Announce (Announced a)).brief.seen ≡ k.brief.seen)
unfolding learn
noted w k a = (refl, refl)

pub missed_pins_are_moves : MissedPinsAreMoves
missed_pins_are_moves L enough w log sight a e last is l seen =
    record {
      read_last = seen ∙ ap Some (sym told);
      later = later
          (last_entry L enough w (log ++ (Announce, Announced a) ∷ []) (sight, Missed e) l);
    }
  where
    announcing : LastEntry L w log (Announce, Announced a)
    announcing = last_entry L enough w log (Announce, Announced a)
        (log_before L w (log ++ (Announce, Announced a) ∷ []) (sight, Missed e) l)

    told : a ≡ last
    told = by announcing.takes
      where
        by : PartOf w announcing.by Announce → a ≡ last
        by (Own own) = same_announced a last (sym announcing.replied
            ∙ (announced_so announcing.before.state announcing.by
            ∙ ap (λ (o : Option ℕ). Announced (unwrap_or o 0))
            (ap (λ (u : ℕ). (of announcing.before.state u).brief.seen) own
            ∙ (ap (λ (k : Knowledge). k.brief.seen) announcing.told.knows ∙ seen))))
        by (Resigns v at) = absurd (differ at)
          where
            differ : Announce ≡ Join v → ⊥
            differ i = cc

    known : known_by L w (log ++ (Announce, Announced a) ∷ []) ≡ learn w (known_by L w log) Announce (Announced a)
    known = known_more w _ log (Announce, Announced a)

    later : LastEntry L w (log ++ (Announce, Announced a) ∷ []) (sight, Missed e) → a < e
    later t = by t.takes
      where
        k : Knowledge
        k = of t.before.state w

        announcement : (of t.before.state w).brief.announcement ≡ Some a
        announcement = ap (λ (k : Knowledge). k.brief.announcement) (t.told.knows ∙ known)
            ∙ (noted w (known_by L w log) a).0

        read : (of t.before.state w).brief.seen ≡ Some a
        read = ap (λ (k : Knowledge). k.brief.seen) (t.told.knows ∙ known)
            ∙ ((noted w (known_by L w log) a).1 ∙ (seen ∙ ap Some (sym told)))

        by : PartOf w t.by sight → a < e
        by (Own own) =
            let shows = missed_shows (of t.before.state w) t.before.state.memory.epoch e a announcement
            (sym (sight_replies t.before.state w sight is)
            ∙ (ap (λ (u : ℕ). reply_of t.before.state u sight) (sym own) ∙ t.replied)) in
            let up = (law_of_state L enough t.before t.told.is_ordered).1.epochs.sights w a read in
            let same = shows.0 in
            let other = eqb-false a t.before.state.memory.epoch shows.1 in
            apart up same other
          where
            apart : {n : ℕ} → a ≤ n → n ≡ e → (a ≡ n → ⊥) → a < e
            apart up same other = omega (arith, up, same, other)
        by (Resigns v at) = absurd (not_join sight v is at)
