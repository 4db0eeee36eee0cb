-- The epoch that a worker read last is the greatest that it has read.
use Rattle.std.proofs.Common.{◌≡◌, ℕ, ◌+◌, ◌≤◌, ◌==◌, inl, inr, Bool, true, false, cond, List, [], ◌∷◌, ◌++◌, refl, sym, ap, subst, ◌∙◌, arith}
use Rattle.std.specs.Prelude.{Option, Some, None}
use Rattle.std.proofs.lemmas.Bool.{cond_both}
use Rattle.std.proofs.lemmas.List.Elements.{Contains-push_cases}
use Rattle.std.proofs.lemmas.Option.{none-some, same_Some}
use Rattle.nm_edge.specs.Layouts.{Layout}
use Rattle.nm_model.specs.declared.event.Event.{Event}
use Rattle.nm_model.specs.declared.event.Event.TheVariants.{Sight, SightFor, Announce, Leave, LeaveWith, Scan, Advance, Claim, Give, Look, Fill, Link, Flag, Tag, Splice, Join, Swap}
use Rattle.nm_model.specs.declared.reply.Reply.{Reply}
use Rattle.nm_model.specs.declared.reply.Reply.TheVariants.{Saw, Labelled, Pinned, Missed, Announced, Departed, Moved, Behind, Filled, Was}
use Rattle.nm_model.specs.Maps.{is_number}
use Rattle.nm_model.specs.Knowledge.{Knowledge}
use Rattle.nm_model.specs.Learning.{learn, learn_sight}
use Rattle.nm_model.specs.Step.{confirmed, reply_sight, reply}
use Rattle.nm_model.specs.Runs.{State, of, reply_of}
use Rattle.nm_model.specs.Walks.{Entry}
use Rattle.nm_laws.proofs.Epochs.{alike_claim, alike_give, alike_look, alike_fill, alike_link, alike_flag, alike_tag, alike_splice, alike_swap, alike_join}
use Rattle.nm_laws.proofs.Learned.{scan_teaches}
use Rattle.nm_order.specs.Logs.{known_by, IsLogOf}
use Rattle.nm_order.specs.Reads.{sight_epoch, epoch_read, HasRead, ReadLast, EpochsAreReadInOrder}
use Rattle.nm_order.proofs.LastEntries.{known_more, PartOf, LastEntry, last_entry}
use Rattle.nm_order.proofs.LastEntries.PartOf.{Own, Resigns}
use Rattle.nm_order.proofs.LogInduction.{each_log}
use Rattle.nm_order.proofs.OrderedLaws.{law_of_state}

-- ---- what an event that reads an epoch tells, and what any other leaves

sight_reads : (k : Knowledge) (r : Reply) (e : ℕ) → sight_epoch r ≡ Some e → (learn_sight k r).brief.seen ≡ Some e
sight_reads k (Saw x) e is = is
sight_reads k (Labelled x) e is = is
sight_reads k (Pinned x) e is = is
sight_reads k (Missed x) e is = is
sight_reads k _ e is = absurd (none-some e is)

reads : (w : ℕ) (k : Knowledge) (event : Event) (r : Reply) (e : ℕ) → epoch_read event r ≡ Some e
    → (learn w k event r).brief.seen ≡ Some e
unfolding learn
reads w k Sight r e is = sight_reads k r e is
reads w k (SightFor op key) r e is = sight_reads k r e is
reads w k Advance (Moved x) e is = is
reads w k Advance (Behind x) e is = is
reads w k _ _ e is = absurd (none-some e is)

sight_stays : (k : Knowledge) (r : Reply) → sight_epoch r ≡ None → (learn_sight k r).brief.seen ≡ k.brief.seen
sight_stays k (Saw x) is = absurd (none-some x (sym is))
sight_stays k (Labelled x) is = absurd (none-some x (sym is))
sight_stays k (Pinned x) is = absurd (none-some x (sym is))
sight_stays k (Missed x) is = absurd (none-some x (sym is))
sight_stays k _ is = refl

stays : (w : ℕ) (k : Knowledge) (event : Event) (r : Reply) → epoch_read event r ≡ None
    → (learn w k event r).brief.seen ≡ k.brief.seen
unfolding learn
stays w k Sight r is = sight_stays k r is
stays w k (SightFor op key) r is = sight_stays k r is
stays w k Announce (Announced e) is = refl
stays w k Leave Departed is = refl
stays w k (LeaveWith answer) Departed is = refl
stays w k (Scan u) r is = ap (λ (l : Knowledge). l.brief.seen) (scan_teaches k u r)
stays w k Advance (Moved x) is = absurd (none-some x (sym is))
stays w k Advance (Behind x) is = absurd (none-some x (sym is))
stays w k (Claim s) r is = (alike_claim w k s r).seen
stays w k (Give s) r is = (alike_give w k s r).seen
stays w k (Look s f) r is = (alike_look w k s f r).seen
stays w k (Fill s f v) Filled is = (alike_fill w k s f v).seen
stays w k (Link p side leaf new) r is = (alike_link w k p side leaf new r).seen
stays w k (Flag p side leaf) r is = (alike_flag w k p side leaf r).seen
stays w k (Tag p side) (Was e) is = (alike_tag w k p side e).seen
stays w k (Splice a side s p keep) r is = (alike_splice w k a side s p keep r).seen
stays w k (Swap p side leaf new) r is = (alike_swap w k p side leaf new r).seen
stays w k (Join v) r is = (alike_join w k v r).seen
stays w k _ _ is = refl

-- ---- it is not below the epoch

pub confirmed_finds : (pin announced : Option ℕ) (n : ℕ) → sight_epoch (confirmed pin announced n) ≡ Some n
confirmed_finds (Some p) announced n = refl
confirmed_finds None None n = refl
confirmed_finds None (Some a) n = cond_both (a == n) _ _ (λ r. sight_epoch r ≡ Some n) (λ _. refl) (λ _. refl)

sight_finds : (k : Knowledge) (n : ℕ) → sight_epoch (reply_sight k n) ≡ Some n
sight_finds k n = cond_both k.brief.unlabelled _ _ (λ r. sight_epoch r ≡ Some n) (λ _. refl)
    (λ _. confirmed_finds k.brief.pin k.brief.announcement n)

not_below : (s : State) (w : ℕ) (event : Event) (e : ℕ) → epoch_read event (reply_of s w event) ≡ Some e
    → s.memory.epoch ≤ e
unfolding reply
not_below s w Sight e is =
    let same : s.memory.epoch ≡ e = same_Some s.memory.epoch e (sym (sight_finds (of s w) s.memory.epoch) ∙ is) in
    omega (arith, same)
not_below s w (SightFor op key) e is =
    let same : s.memory.epoch ≡ e = same_Some s.memory.epoch e (sym (sight_finds (of s w) s.memory.epoch) ∙ is) in
    omega (arith, same)
not_below s w Advance e is = go (is_number (of s w).brief.seen s.memory.epoch) is
  where
    go : (b : Bool) → epoch_read Advance (cond b (Moved (s.memory.epoch + 1)) (Behind s.memory.epoch)) ≡ Some e
        → s.memory.epoch ≤ e
    go true is = let same : s.memory.epoch + 1 ≡ e = same_Some (s.memory.epoch + 1) e is in omega (arith, same)
    go false is = let same : s.memory.epoch ≡ e = same_Some s.memory.epoch e is in omega (arith, same)
not_below s w _ e is = absurd (none-some e is)

-- ---- logs

module _ (L : Layout) (enough : 5 ≤ L.nodes) (w : ℕ) where
  abbrev Law : List Entry → Type 0
  Law log = (epoch : ℕ) → HasRead log epoch → ReadLast log (known_by L w log).brief.seen epoch

  none_read : Law []
  none_read epoch read = let below = read.among.1 in absurd (omega (arith, below))

  more : (log : List Entry) (entry : Entry) → IsLogOf L w (log ++ entry ∷ []) → Law log → Law (log ++ entry ∷ [])
  more log entry l law epoch read = elim (Contains-push_cases log entry read.entry read.among) [
    | inr here ↦ last (subst (λ (e : Entry). epoch_read e.0 e.1 ≡ Some epoch) (sym here) read.tells)
    | inl before ↦ earlier (law epoch (record { entry = read.entry; among = before; tells = read.tells }))
        (epoch_read entry.0 entry.1) refl
  ]
    where
      becomes : known_by L w (log ++ entry ∷ []) ≡ learn w (known_by L w log) entry.0 entry.1
      becomes = known_more w _ log entry

      last : epoch_read entry.0 entry.1 ≡ Some epoch
          → ReadLast (log ++ entry ∷ []) (known_by L w (log ++ entry ∷ [])).brief.seen epoch
      last tells = record {
        last = epoch;
        is_seen = ap (λ (k : Knowledge). k.brief.seen) becomes
            ∙ reads w (known_by L w log) entry.0 entry.1 epoch tells;
        above = omega arith;
      }

      above : (n : ℕ) → epoch_read entry.0 entry.1 ≡ Some n → (m : ℕ) → (known_by L w log).brief.seen ≡ Some m → m ≤ n
      above n tells m is = go (last_entry L enough w log entry l)
        where
          go : LastEntry L w log entry → m ≤ n
          go e = by e.takes
            where
              by : PartOf w e.by entry.0 → m ≤ n
              by (Own own) =
                  let law = law_of_state L enough e.before e.told.is_ordered in
                  let low = law.1.epochs.sights w m (ap (λ (k : Knowledge). k.brief.seen) e.told.knows ∙ is) in
                  let high = not_below e.before.state e.by entry.0 n (ap (epoch_read entry.0) e.replied ∙ tells) in
                  omega (arith, low, high)
              by (Resigns v is) = absurd (none-some n (ap (λ (x : Event). epoch_read x entry.1) (sym is) ∙ tells))

      earlier : ReadLast log (known_by L w log).brief.seen epoch → (o : Option ℕ) → epoch_read entry.0 entry.1 ≡ o
          → ReadLast (log ++ entry ∷ []) (known_by L w (log ++ entry ∷ [])).brief.seen epoch
      earlier was None none = record {
        last = was.last;
        is_seen = ap (λ (k : Knowledge). k.brief.seen) becomes
            ∙ (stays w (known_by L w log) entry.0 entry.1 none ∙ was.is_seen);
        above = was.above;
      }
      earlier was (Some n) tells = record {
        last = n;
        is_seen = ap (λ (k : Knowledge). k.brief.seen) becomes ∙ reads w (known_by L w log) entry.0 entry.1 n tells;
        above = let low = was.above in let high = above n tells was.last was.is_seen in omega (arith, low, high);
      }

pub epochs_are_read_in_order : EpochsAreReadInOrder
epochs_are_read_in_order L enough w log l = each_log L w (Law L enough w) (none_read L enough w) (more L enough w) log l
