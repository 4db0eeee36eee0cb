-- Each event keeps the shape of a state: there is a word and a worker for each that the layout has.
use Rattle.std.proofs.Common.{◌≡◌, ◌<◌, ◌-◌, ◌==◌, ℕ, true, cond, eqb, length, replicate, set, refl, ◌∙◌, subst, arith}
use Rattle.std.specs.Prelude.{None}
use Rattle.std.proofs.lemmas.Bool.{cond_both, or_parts}
use Rattle.std.proofs.lemmas.List.{length-set, length-replicate, length-map}
use Rattle.std.proofs.lemmas.List.Elements.{All-set, All-get_or}
use Rattle.std.proofs.lemmas.List.FromFn.{length-map-range_with_len, get_or-map-range_with_len}
use Rattle.nm_edge.specs.Layouts.{Layout, IsLayout}
use Rattle.nm_model.specs.declared.event.Field.TheVariants.{Edge as EdgeOn, Birth}
use Rattle.nm_model.specs.declared.event.Field.{Field}
use Rattle.nm_model.specs.declared.event.Event.{Event}
use Rattle.nm_model.specs.declared.event.Event.TheVariants.{Sight, SightFor, Announce, Leave, LeaveWith, Scan, Advance, Claim, Give, Look, Fill, Link, Flag, Tag, Splice, Swap, Join}
use Rattle.nm_model.specs.declared.reply.Reply.{Reply}
use Rattle.nm_model.specs.declared.reply.Reply.TheVariants.{Saw, Labelled, Pinned, Missed, Announced, Departed, Idle, In, Moved, Behind, Claimed, Returned, Freed, BirthIs, EdgeIs, Filled, Linked, Flagged, Was, Cut, Lost, Joined}
use Rattle.nm_model.specs.Maps.{is_number}
use Rattle.nm_model.specs.Memory.{blank}
use Rattle.nm_model.specs.Ledgers.{taken_over}
use Rattle.nm_model.specs.Knowledge.{Knowledge, newcomer, is_private}
use Rattle.nm_model.specs.Learning.{learn, learn_sight, learn_scan, look_private, look_known, forgotten}
use Rattle.nm_model.specs.Runs.{State, of, start, is_no_worker, join_refusal, applied}
use Rattle.nm_laws.proofs.Reaches.{IsReachable}
use Rattle.nm_model.specs.Answers.{IsShaped, IsRow}
use Rattle.nm_laws.proofs.Steps.{Allowed, passed, by_steps, is_worker}
use Rattle.nm_laws.proofs.Sizes.{written_as_long}
use Rattle.nm_laws.proofs.Held.{length-free, length-taken_over}

-- ---- one worker

length-saw : (k : Knowledge) (e : ℕ) → length (cond (is_number k.brief.seen e) k.scanned (forgotten k.scanned))
    ≡ length k.scanned
length-saw k e = cond_both (is_number k.brief.seen e) k.scanned (forgotten k.scanned)
    (λ xs. length xs ≡ length k.scanned) (λ _. refl) (λ _. length-replicate _ _)

row_sight : (n : ℕ) (k : Knowledge) (r : Reply) → IsRow n k → IsRow n (learn_sight k r)
row_sight n k (Saw e) h = record { scanned = length-saw k e ∙ h.scanned; ledgers = h.ledgers }
row_sight n k (Labelled e) h = record {
  scanned = length-saw k e ∙ h.scanned;
  ledgers = length-map k.ledgers _
      ∙ h.ledgers;
}
row_sight n k (Pinned e) h = record { scanned = length-saw k e ∙ h.scanned; ledgers = h.ledgers }
row_sight n k (Missed e) h = record { scanned = length-saw k e ∙ h.scanned; ledgers = h.ledgers }
row_sight n k _ h = h

row_scan : (n : ℕ) (k : Knowledge) (u : ℕ) (r : Reply) → IsRow n k → IsRow n (learn_scan k u r)
row_scan n k u Idle h = record { scanned = length-set _ _ _ ∙ h.scanned; ledgers = h.ledgers }
row_scan n k u (In e) h = record { scanned = length-set _ _ _ ∙ h.scanned; ledgers = h.ledgers }
row_scan n k u _ h = h

row_look_private : (n : ℕ) (k : Knowledge) (s : ℕ) (f : Field) (r : Reply) → IsRow n k → IsRow n (look_private k s f r)
row_look_private n k s Birth (BirthIs b) h = record { scanned = h.scanned; ledgers = h.ledgers }
row_look_private n k s _ _ h = h

row_look_known : (n : ℕ) (k : Knowledge) (s : ℕ) (f : Field) (r : Reply) → IsRow n k → IsRow n (look_known k s f r)
row_look_known n k s (EdgeOn side) (EdgeIs e) h = record { scanned = h.scanned; ledgers = h.ledgers }
row_look_known n k s Birth (BirthIs b) h = record { scanned = h.scanned; ledgers = h.ledgers }
row_look_known n k s _ _ h = h

pub row_learn : (n w : ℕ) (k : Knowledge) (e : Event) (r : Reply) → IsRow n k → IsRow n (learn w k e r)
unfolding learn
row_learn n w k Sight r h = row_sight n k r h
row_learn n w k (SightFor op key) r h = row_sight n k r h
row_learn n w k Announce (Announced e) h = record { scanned = h.scanned; ledgers = h.ledgers }
row_learn n w k Leave Departed h = record { scanned = h.scanned; ledgers = h.ledgers }
row_learn n w k (LeaveWith answer) Departed h = record { scanned = h.scanned; ledgers = h.ledgers }
row_learn n w k (Scan u) r h = row_scan n k u r h
row_learn n w k Advance (Moved e) h = record { scanned = length-replicate _ _ ∙ h.scanned; ledgers = h.ledgers }
row_learn n w k Advance (Behind e) h = record { scanned = length-replicate _ _ ∙ h.scanned; ledgers = h.ledgers }
row_learn n w k (Claim s) (Claimed t) h = record { scanned = h.scanned; ledgers = h.ledgers }
row_learn n w k (Give s) (Returned t) h = record { scanned = h.scanned; ledgers = h.ledgers }
row_learn n w k (Give s) (Freed m) h = record { scanned = h.scanned; ledgers = length-free k.ledgers m ∙ h.ledgers }
row_learn n w k (Look s f) r h = cond_both (is_private k s) (look_private k s f r) (look_known k s f r) (IsRow n)
    (λ _. row_look_private n k s f r h) (λ _. row_look_known n k s f r h)
row_learn n w k (Fill s f v) Filled h = record { scanned = h.scanned; ledgers = h.ledgers }
row_learn n w k (Link p side leaf new) (Linked m) h = record { scanned = h.scanned; ledgers = h.ledgers }
row_learn n w k (Link p side leaf new) (Lost e) h = record { scanned = h.scanned; ledgers = h.ledgers }
row_learn n w k (Flag p side leaf) (Flagged m) h = record { scanned = h.scanned; ledgers = h.ledgers }
row_learn n w k (Flag p side leaf) (Lost e) h = record { scanned = h.scanned; ledgers = h.ledgers }
row_learn n w k (Tag p side) (Was e) h = record { scanned = h.scanned; ledgers = h.ledgers }
row_learn n w k (Splice a side s p keep) (Cut ns) h =
    record { scanned = h.scanned; ledgers = length-set _ _ _ ∙ h.ledgers }
row_learn n w k (Splice a side s p keep) (Lost e) h = record { scanned = h.scanned; ledgers = h.ledgers }
row_learn n w k (Swap p side leaf new) (Cut ns) h =
    record { scanned = h.scanned; ledgers = length-set _ _ _ ∙ h.ledgers }
row_learn n w k (Swap p side leaf new) (Lost e) h = record { scanned = h.scanned; ledgers = h.ledgers }
row_learn n w k (Join v) (Joined ls) h =
    cond_both (eqb w v) (record k { ledgers = replicate (length k.ledgers) None; gone = true })
    (record k { ledgers = taken_over k.ledgers ls }) (IsRow n)
    (λ _. record { scanned = h.scanned; ledgers = length-replicate _ _ ∙ h.ledgers })
    (λ _. record { scanned = h.scanned; ledgers = length-taken_over k.ledgers ls ∙ h.ledgers })
row_learn n w k _ _ h = h

-- ---- a state

row_of : (s : State) (w : ℕ) → IsShaped s → w < s.layout.workers → IsRow s.layout.workers (of s w)
row_of s w h there = All-get_or (IsRow s.layout.workers) s.workers w (newcomer s.layout w)
    (let all = h.workers in omega arith) h.rows

shaped_by : (s : State) (w : ℕ) (e : Event) (k : Knowledge) → IsShaped s → IsRow s.layout.workers k
    → IsShaped (record { layout = s.layout; memory = (applied s w e).memory; workers = set s.workers w k })
unfolding applied
shaped_by s w e k h row =
    let long = written_as_long s.memory (of s w) w e in
    record {
      announcements = long.announcements ∙ h.announcements;
      nodes = long.nodes ∙ h.nodes;
      pool = long.pool ∙ h.pool;
      workers = length-set s.workers w k ∙ h.workers;
      rows = All-set (IsRow s.layout.workers) s.workers w k row h.rows;
    }

-- a worker that may resign is there
leaver_there : (s : State) (w v : ℕ) → join_refusal s w v ≡ None → v < s.layout.workers
leaver_there s w v h = (is_worker s v (or_parts (v == w) (is_no_worker s v) (passed _ _ _ h).0).1).0

shaped_step : (s : State) (w : ℕ) (e : Event) → IsShaped s → Allowed s w e → IsShaped (applied s w e)
unfolding applied
shaped_step s w (Join v) h allowed =
    let first = shaped_by s w (Join v) _ h (row_learn s.layout.workers w (of s w) (Join v) _
    (row_of s w h allowed.worker)) in
    let n = s.layout.workers in
    record {
      announcements = first.announcements;
      nodes = first.nodes;
      pool = first.pool;
      workers = length-set _ v _ ∙ first.workers;
      rows = All-set (IsRow n) _ v _ (row_learn n v (of s v) (Join v) _
          (row_of s v h (leaver_there s w v allowed.event))) first.rows;
    }
shaped_step s w e h allowed = shaped_by s w e _ h
    (row_learn s.layout.workers w (of s w) e _ (row_of s w h allowed.worker))

pub row_newcomer : (L : Layout) (w : ℕ) → IsRow L.workers (newcomer L w)
row_newcomer L w = record { scanned = length-replicate _ _; ledgers = length-set _ _ _ ∙ length-replicate _ _ }

shaped_start : (L : Layout) → IsLayout L → IsShaped (start L)
shaped_start L fits = record {
  announcements = length-replicate L.workers None;
  nodes = let least = fits.least in let rest = length-replicate (L.nodes - 5) blank in omega arith;
  pool = let least = fits.least in let rest = length-replicate (L.nodes - 5) true in omega arith;
  workers = length-map-range_with_len (newcomer L) 0 L.workers;
  rows = λ w d there. rw (get_or-map-range_with_len (newcomer L) 0 L.workers w w d
      (let all = length-map-range_with_len (newcomer L) 0 L.workers in omega arith) (omega arith)) (row_newcomer L w);
}

pub reachable_shaped : (s : State) → IsReachable s → IsShaped s
reachable_shaped s r = subst IsShaped r.leads (by_steps IsShaped shaped_step r.events (start s.layout)
    (shaped_start s.layout r.fits))
