-- What two moves of the epoch leave to wait: nothing, if no worker held them back.
use Rattle.std.proofs.Common.{◌≡◌, ◌≢◌, ℕ, zero, suc, ◌+◌, ◌*◌, ◌≤◌, ◌==◌, ◌⊎◌, inl, inr, Bool, true, false, true≢false, cond, List, [], ◌∷◌, ◌++◌, append_assoc, refl, sym, ap, subst, ◌∙◌, arith}
use Rattle.std.specs.Prelude.{Option, Some, None, Result, Ok, Err, map, slice_get, option_map, All, Contains}
use Rattle.std.proofs.lemmas.Bool.{cond_both, eqb-true, le-leb, or_cases}
use Rattle.std.proofs.lemmas.List.{append-nil, append_cancel_left}
use Rattle.std.proofs.lemmas.List.Elements.{All-contains, Contains-append_cases, Contains-append_left, Contains-append_right}
use Rattle.std.proofs.lemmas.List.Sums.{take_while-cons}
use Rattle.std.proofs.lemmas.Option.{none-some, same_Some, slice_get-map}
use Rattle.nm_edge.specs.Layouts.{Layout}
use Rattle.nm_model.specs.declared.event.Event.{Event}
use Rattle.nm_model.specs.declared.event.Event.TheVariants as event
use Rattle.nm_model.specs.declared.reply.Reply.{Reply}
use Rattle.nm_model.specs.declared.reply.Reply.TheVariants as reply
use Rattle.nm_model.specs.declared.reply.Refused.{Refused}
use Rattle.nm_model.specs.declared.ledger.Queued.{Queued}
use Rattle.nm_model.specs.Knowledge.{Knowledge}
use Rattle.nm_model.specs.Learning.{learn}
use Rattle.nm_model.specs.Ledgers.{held, queue_of}
use Rattle.nm_model.specs.Lawful.{NoLabelIsAboveTheEpoch}
use Rattle.nm_model.specs.Runs.{State, of, reply_of}
use Rattle.nm_model.specs.Step.{reply, reply_sight, reply_scan, last_number}
use Rattle.nm_model.specs.Headline.{freed_by}
use Rattle.nm_model.specs.Walks.{Entry as LogEntry, logged_by}
use Rattle.nm_model.specs.declared.trace.Turn.{Turn}
use Rattle.nm_laws.proofs.Configurations.{after_in-append}
use Rattle.nm_model.specs.Ordered.{Configuration, ordered, after_in, trace_in}
use Rattle.nm_laws.proofs.Labels.{no_label_is_above}
use Rattle.nm_order.specs.Logs.{part_of, known_by, IsLogOf, is_leaver, takes_part}
use Rattle.nm_order.specs.Reads.{sight_epoch, HasRead}
use Rattle.nm_order.proofs.LastEntries.{known_more}
use Rattle.nm_order.proofs.OrderedLaws.{each_ordered, law_of_state}
use Rattle.nm_order.proofs.PartsOfRuns.{logs_tell}
use Rattle.nm_order.proofs.ReadEpochs.{confirmed_finds, epochs_are_read_in_order}
use Rattle.nm_progress.specs.Moves.{number_of, moves}
use Rattle.nm_progress.proofs.Moves.{epochs_are_the_moves}
use Rattle.nm_progress.proofs.SplitTurns.{SplitTurn, split_turn}
use Rattle.nm_steps.specs.Rules.{Extends, knowledge}
use Rattle.nm_steps.specs.Steps.{TreeView, PassView, HasSeen, HasSeenAllOf, IsSamePass}
use Rattle.nm_epoch.specs.declared.answers.Advance.{Advance}
use Rattle.nm_epoch.specs.declared.answers.Advance.TheVariants as advance
use Rattle.nm_epoch.specs.declared.collecting.Collected.{Collected}
use Rattle.nm_epoch.specs.declared.collecting.Entry.{Entry}
use Rattle.nm_epoch.specs.declared.collecting.HeldQueue.{HeldQueue}
use Rattle.nm_epoch.specs.Collecting.{AreHeld, IsQueueOf, is_ripe, queued, ripe_part, ripe_of, freeing}
use Rattle.nm_epoch.specs.Resting.{epochs}
use Rattle.nm_epoch.specs.Scans.{AllLetPass, LooksAt, IsAdvance, SightThenScans}
use Rattle.nm_epoch.proofs.Fronts.{shown_queue}
use Rattle.nm_calls.specs.PlainWalks.{events_of}
use Rattle.nm_calls.proofs.PlainLooks.{as_events, events_go_on}
use Rattle.nm_progress.proofs.LostPins.{part-append, turns_between}
use Rattle.nm_calls.specs.Won.{HasWon}
use Rattle.nm_tree.specs.Running.{IsFreedInGrace}
use Rattle.nm_tree.specs.Workers.{WorkerView, IsAs, IsBetweenCalls}
use Rattle.nm_tree.proofs.Quiet.{Quiet, advanced, collected}
use Rattle.nm_tree.specs.Calls.{LeavesAdvance, LeavesCollect}
use Rattle.nm_tree.specs.Answers.{HasMade}
use Rattle.nm_tree.proofs.MadeInTurns.{made_by, part_since}
use Rattle.nm_set.specs.Managed.{Collects, FindsBehind, GoesOn, HasFoundElsewhere, HasSighted, Since}
use Rattle.nm_set.specs.Rounds.{IsRelieved, found_behind}
use Rattle.nm_set.proofs.Managing.{Follows, follows_then, goes_advance, goes_collect, goes_then, goes_more, wins_after}

-- ---- what is ripe

-- no label is above n
abbrev AreLabelledBy : ℕ → List Entry → Type 0
AreLabelledBy n [] = Unit {0}
AreLabelledBy n (e ∷ es) = (e.label ≤ n) × AreLabelledBy n es

labelled_by : (n : ℕ) (es : List Entry) → ((i : ℕ) (e : Entry) → slice_get es i ≡ Some e → e.label ≤ n)
    → AreLabelledBy n es
labelled_by n [] each = tt
labelled_by n (e ∷ es) each = (each 0 e refl, labelled_by n es (λ i x at. each (suc i) x at))

ripe_so : (epoch n : ℕ) (e : Entry) → n + 2 ≤ epoch → e.label ≤ n → is_ripe epoch e ≡ true
ripe_so epoch n e late low = le-leb (e.label + 2) epoch (omega (arith, late, low))

all_ripe : (epoch n : ℕ) (es : List Entry) → n + 2 ≤ epoch → AreLabelledBy n es → ripe_part epoch es ≡ es
all_ripe epoch n [] late are = refl
all_ripe epoch n (e ∷ es) late are =
    take_while-cons (is_ripe epoch) e es ∙ (ap (λ (b : Bool). cond b (e ∷ ripe_part epoch es) [])
    (ripe_so epoch n e late are.0) ∙ ap (λ (l : List Entry). e ∷ l) (all_ripe epoch n es late are.1))

-- the labels of these queues are so low
AllLabelled : ℕ → List HeldQueue → Type 0
AllLabelled n [] = Unit {0}
AllLabelled n (h ∷ hs) = AreLabelledBy n h.queue.items × AllLabelled n hs

-- what waits in them is ripe
is_ripe_of : (epoch n : ℕ) (hs : List HeldQueue) (h : HeldQueue) (e : Entry) → n + 2 ≤ epoch → AllLabelled n hs
    → Contains hs h → Contains h.queue.items e → Contains (ripe_of epoch hs) e
unfolding AllLabelled
is_ripe_of epoch n [] h e late are (i, below, at) waits = absurd (omega (arith, below))
is_ripe_of epoch n (g ∷ hs) h e late are (zero, below, at) waits =
    Contains-append_left (ripe_part epoch g.queue.items) (ripe_of epoch hs) e
    (subst (λ (es : List Entry). Contains es e) (sym (all_ripe epoch n g.queue.items late are.0))
    (subst (λ (x : HeldQueue). Contains x.queue.items e) (sym at) waits))
is_ripe_of epoch n (g ∷ hs) h e late are (suc i, below, at) waits =
    Contains-append_right (ripe_part epoch g.queue.items) (ripe_of epoch hs) e
    (is_ripe_of epoch n hs h e late are.1 (i, omega (arith, below), at) waits)

-- each node of these queues was freed, as the pass has seen
abbrev AreFreed : List HeldQueue → PassView → Type 0
AreFreed hs p = (h : HeldQueue) → Contains hs h → (e : Entry) → Contains h.queue.items e
    → Contains (freed_by p.view.past) e.node

-- ---- the epoch that a pass has seen to stand

abbrev state_seen : PassView → State
state_seen p = (after_in (ordered p.view.layout) (events_of p.view.past)).state

abbrev epoch_seen : PassView → ℕ
epoch_seen p = (state_seen p).memory.epoch

knows : (p : PassView) → HasSeen p.view → of (state_seen p) p.view.number ≡ knowledge p.view
knows p seen = logs_tell p.view.layout (events_of p.view.past) p.view.number seen.worker
    ∙ ap (known_by p.view.layout p.view.number) (as_events p.view seen).is_part

no_label_above : (p : PassView) → 5 ≤ p.view.layout.nodes → HasSeen p.view → NoLabelIsAboveTheEpoch (state_seen p)
no_label_above p enough seen =
    let o = each_ordered p.view.layout enough (events_of p.view.past) (as_events p.view seen).keys in
    subst NoLabelIsAboveTheEpoch (sym o.leads) (no_label_is_above p.view.layout enough o.events)

-- what waits is labelled by an epoch that had been
queue_labelled : (p : PassView) (o : ℕ) (es : List Entry) → 5 ≤ p.view.layout.nodes → HasSeen p.view
    → IsQueueOf (knowledge p.view) o es → AreLabelledBy (epoch_seen p) es
queue_labelled p o es enough seen has = labelled_by (epoch_seen p) es
    (λ i e at. no_label_above p enough seen p.view.number o i e.label (queued e)
    (ap (λ (k : Knowledge). slice_get (queue_of (held k.ledgers o)) i) (knows p seen)
    ∙ (ap (λ (q : List Queued). slice_get q i) (shown_queue (held (knowledge p.view).ledgers o) (map queued es) has)
    ∙ (slice_get-map queued es i ∙ ap (λ (x : Option Entry). option_map queued x) at))) refl)

all_labelled : (p : PassView) (hs : List HeldQueue) → 5 ≤ p.view.layout.nodes → HasSeen p.view
    → AreHeld (knowledge p.view) hs → AllLabelled (epoch_seen p) hs
unfolding AllLabelled
all_labelled p [] enough seen has = tt
all_labelled p (h ∷ hs) enough seen has = (
  queue_labelled p h.origin h.queue.items enough seen has.0,
  all_labelled p
      hs enough seen has.2,
)

-- the epoch that it read last is not above that one
seen_before : (p : PassView) (e : ℕ) → 5 ≤ p.view.layout.nodes → HasSeen p.view
    → (knowledge p.view).brief.seen ≡ Some e → e ≤ epoch_seen p
seen_before p e enough seen is =
    (law_of_state p.view.layout enough (after_in (ordered p.view.layout) (events_of p.view.past))
    (each_ordered p.view.layout enough (events_of p.view.past) (as_events p.view seen).keys)).1.epochs.sights
    p.view.number e
    (ap (λ (k : Knowledge). k.brief.seen) (knows p seen) ∙ is)

sight_finds : (k : Knowledge) (n : ℕ) → sight_epoch (reply_sight k n) ≡ Some n
sight_finds k n = cond_both k.brief.unlabelled _ _ (λ r. sight_epoch r ≡ Some n) (λ _. refl)
    (λ _. confirmed_finds k.brief.pin k.brief.announcement n)

sight_told : (s : State) (w : ℕ) → reply_of s w event.Sight ≡ reply_sight (of s w) s.memory.epoch
unfolding reply
sight_told s w = refl

-- the first entry behind it, a sight, reads no lesser one
first_epoch : (w e : ℕ) (r : Reply) (c : Configuration) (more : List (ℕ × Event)) (rest : List LogEntry)
    → sight_epoch r ≡ Some e → part_of w (trace_in c more) ≡ (event.Sight, r) ∷ rest → c.state.memory.epoch ≤ e
first_epoch w e r c more rest tells is = by (split_turn w more c [] (event.Sight, r) rest is)
  where
    by : SplitTurn w c more [] (event.Sight, r) rest → c.state.memory.epoch ≤ e
    by a = let grown = epochs_are_the_moves c a.before in let at = same_Some _ e finds in omega (arith, grown, at)
      where
        s : State
        s = (after_in c a.before).state

        finds : Some ((after_in c a.before).state.memory.epoch) ≡ Some e
        finds = sym (sight_finds (of (after_in c a.before).state a.turn.0) (after_in c a.before).state.memory.epoch)
            ∙ (ap sight_epoch (sym (sight_told (after_in c a.before).state a.turn.0)
            ∙ (ap (reply_of (after_in c a.before).state a.turn.0) (sym (ap (λ (k : LogEntry). k.0) a.is_entry))
            ∙ ap (λ (k : LogEntry). k.1) a.is_entry)) ∙ tells)

-- ---- from one moment of a pass to a later one

part_between : (p q : PassView) (adds : List LogEntry) → HasSeen p.view → HasSeen q.view → IsSamePass p q
    → (e : Extends q.view.past p.view.past) → q.view.log ≡ p.view.log ++ adds
    → part_of p.view.number (trace_in (after_in (ordered p.view.layout) (events_of p.view.past)) (events_of e.more))
    ≡ adds
part_between p q adds seen_p seen_q same e is = ap (part_of p.view.number) (turns_between p q seen_p seen_q same e)
    ∙ part_since p q adds seen_p seen_q same e is

-- the epoch grows by its moves
epoch_between : (p q : PassView) → HasSeen p.view → HasSeen q.view → IsSamePass p q
    → (e : Extends q.view.past p.view.past) → epoch_seen q ≡ epoch_seen p + number_of moves e.more
epoch_between p q seen_p seen_q same e =
    ap (λ (L : Layout). (after_in (ordered L) (events_of q.view.past)).state.memory.epoch)
    (ap (λ (s : PassView). s.view.layout) same)
    ∙ (ap (λ (es : List (ℕ × Event)). (after_in (ordered p.view.layout) es).state.memory.epoch)
    (events_go_on q.view.past p.view.past e)
    ∙ (ap (λ (c : Configuration). c.state.memory.epoch)
    (after_in-append (ordered p.view.layout) (events_of p.view.past) (events_of e.more))
    ∙ (epochs_are_the_moves (after_in (ordered p.view.layout) (events_of p.view.past)) (events_of e.more)
    ∙ ap (λ (ts : List Turn). epoch_seen p + number_of moves ts) (turns_between p q seen_p seen_q same e))))

-- a call that begins with a sight reads no epoch below that which had been seen
reads_no_less : (p q : PassView) (e : ℕ) (r : Reply) (rest : List LogEntry) → HasSeen p.view → HasSeen q.view
    → IsSamePass p q → HasSeenAllOf q p → sight_epoch r ≡ Some e → q.view.log ≡ p.view.log ++ (event.Sight, r) ∷ rest
    → epoch_seen p ≤ e
reads_no_less p q e r rest seen_p seen_q same past tells is =
    first_epoch p.view.number e r (after_in (ordered p.view.layout) (events_of p.view.past))
    (events_of past.goes_on.more) rest tells
    (part_between p q ((event.Sight, r) ∷ rest) seen_p seen_q same past.goes_on is)

-- ---- an advance

scans_add : (me : ℕ) (pin : Option ℕ) (e n : ℕ) (old new : List LogEntry) → AllLetPass me pin e n old new
    → (xs : List LogEntry) × (new ≡ old ++ xs)
scans_add me pin e zero old new is = ([], is ∙ sym (append-nil old))
scans_add me pin e (suc n) old new (mid, found, before, look, lets) = by (scans_add me pin e n old mid before) look
  where
    by : (xs : List LogEntry) × (mid ≡ old ++ xs) → LooksAt me pin n found mid new
        → (xs : List LogEntry) × (new ≡ old ++ xs)
    by (xs, is) (inl own) = (xs, own.2 ∙ is)
    by (xs, is) (inr other) = (
      xs ++ (event.Scan n, reply_scan found) ∷ [],
      other.1
          ∙ (ap (λ (l : List LogEntry). l ++ (event.Scan n, reply_scan found) ∷ []) is ∙ append_assoc old xs _),
    )

-- what an advance that was not held leaves: a sight of an epoch, and at the end a later one
record Moves (old new : List LogEntry) : Type 0 where
  read : ℕ
  sight : Reply
  tells : sight_epoch sight ≡ Some read
  mid : List LogEntry
  last : Reply
  found : ℕ
  told : (k : Knowledge) (w : ℕ) → (learn w k event.Advance last).brief.seen ≡ Some found
  finds : (found ≡ read + 1) ⊎ (found ≢ read)
  begins : new ≡ old ++ (event.Sight, sight) ∷ mid
  ends : (before : List LogEntry) × (new ≡ before ++ (event.Advance, last) ∷ [])

learns_moved : (e : ℕ) (k : Knowledge) (w : ℕ) → (learn w k event.Advance (reply.Moved e)).brief.seen ≡ Some e
unfolding learn
learns_moved e k w = refl

learns_behind : (e : ℕ) (k : Knowledge) (w : ℕ) → (learn w k event.Advance (reply.Behind e)).brief.seen ≡ Some e
unfolding learn
learns_behind e k w = refl

begins_so : (m me e : ℕ) (pin : Option ℕ) (old mid new : List LogEntry) (last : LogEntry)
    (s : SightThenScans me pin e m old mid) → new ≡ mid ++ last ∷ []
    → (rest : List LogEntry) × (new ≡ old ++ (event.Sight, s.1.0) ∷ rest)
begins_so m me e pin old mid new last s is =
    let scans = scans_add me pin e m s.0 mid s.2 in (
      scans.0 ++ last ∷ [],
      is ∙ (ap (λ (l : List LogEntry). l ++ last ∷ []) (scans.1 ∙ ap (λ (l : List LogEntry). l ++ scans.0) s.1.2)
          ∙ (append_assoc (old ++ (event.Sight, s.1.0) ∷ []) scans.0 (last ∷ [])
          ∙ append_assoc old ((event.Sight, s.1.0) ∷ []) (scans.0 ++ last ∷ []))),
    )

-- so of a last answer from which that epoch is learned
ended_so : (m me e found : ℕ) (pin : Option ℕ) (old mid new : List LogEntry) (last : Reply)
    → ((k : Knowledge) (w : ℕ) → (learn w k event.Advance last).brief.seen ≡ Some found) → (found ≡ e + 1) ⊎ (found ≢ e)
    → SightThenScans me pin e m old mid → new ≡ mid ++ (event.Advance, last) ∷ [] → Moves old new
ended_so m me e found pin old mid new last told finds scans ends =
    let begins = begins_so m me e pin old mid new (event.Advance, last) scans ends in
    record {
      read = e;
      sight = scans.1.0;
      tells = scans.1.1;
      mid = begins.0;
      last = last;
      found = found;
      told = told;
      finds = finds;
      begins = begins.1;
      ends = (mid, ends);
    }

moved_so : (m me : ℕ) (pin : Option ℕ) (old new : List LogEntry) (next : ℕ)
    → IsAdvance m me pin old new (advance.Moved next) → Moves old new
moved_so m me pin old new next (e, mid, scans, is, ends) = ended_so m me e next pin old mid new (reply.Moved next)
    (learns_moved next) (inl is) scans ends

lost_so : (m me : ℕ) (pin : Option ℕ) (old new : List LogEntry) (found : ℕ)
    → IsAdvance m me pin old new (advance.Lost found) → Moves old new
lost_so m me pin old new found (e, mid, scans, is, ends) = ended_so m me e found pin old mid new (reply.Behind found)
    (learns_behind found) (inr is) scans ends

-- behind it a later epoch has been seen
moves_on : (p q : PassView) → 5 ≤ p.view.layout.nodes → HasSeen p.view → HasSeen q.view → IsSamePass p q
    → HasSeenAllOf q p → Moves p.view.log q.view.log → epoch_seen p + 1 ≤ epoch_seen q
moves_on p q enough seen_p seen_q same past m =
    let low = reads_no_less p q m.read m.sight m.mid seen_p seen_q same past m.tells m.begins in
    let high = seen_before q m.found many seen_q is_seen in
    let up = later m.finds in
    omega (arith, low, high, up)
  where
    layout : q.view.layout ≡ p.view.layout
    layout = ap (λ (s : PassView). s.view.layout) same

    many : 5 ≤ q.view.layout.nodes
    many = subst (λ (L : Layout). 5 ≤ L.nodes) (sym layout) enough

    is_seen : (knowledge q.view).brief.seen ≡ Some m.found
    is_seen = ap (λ (l : List LogEntry). (known_by q.view.layout q.view.number l).brief.seen) m.ends.1
        ∙ (ap (λ (k : Knowledge). k.brief.seen) (known_more q.view.number _ m.ends.0 (event.Advance, m.last))
        ∙ m.told (known_by q.view.layout q.view.number m.ends.0) q.view.number)

    was_read : HasRead q.view.log m.read
    was_read = record {
      entry = (event.Sight, m.sight);
      among = subst (λ (l : List LogEntry). Contains l (event.Sight, m.sight)) (sym m.begins)
          (Contains-append_right p.view.log ((event.Sight, m.sight) ∷ m.mid) (event.Sight, m.sight)
          (zero, omega arith, refl));
      tells = m.tells;
    }

    log : IsLogOf q.view.layout q.view.number q.view.log
    log = record {
      worker = seen_q.worker;
      turns = seen_q.events;
      keys = seen_q.keys;
      is_part = ap
          (part_of q.view.number) (sym seen_q.are) ∙ seen_q.is_part;
    }

    later : (m.found ≡ m.read + 1) ⊎ (m.found ≢ m.read) → m.read + 1 ≤ m.found
    later (inl is) = omega (arith, is)
    later (inr other) =
        let last = epochs_are_read_in_order q.view.layout many q.view.number q.view.log log m.read was_read in
        let same = same_Some last.last m.found (sym last.is_seen ∙ is_seen) in
        let above = last.above in
        let apart : m.found ≢ m.read = other in
        omega (arith, same, above, apart)

-- so it is of an advance that was neither held nor the last
abbrev HasMoved : Advance → Type 0
HasMoved (advance.Moved e) = Unit {0}
HasMoved (advance.Lost e) = Unit {0}
HasMoved _ = ⊥

advanced_so : (m : ℕ) (w z : WorkerView) (a : Advance) → HasMoved a → LeavesAdvance m w z a
    → Moves w.pass.view.log z.pass.view.log
advanced_so m w z (advance.Moved e) moved l = moved_so m w.pass.view.number (epochs w.pass).pin w.pass.view.log
    z.pass.view.log e l.did
advanced_so m w z (advance.Lost e) moved l = lost_so m w.pass.view.number (epochs w.pass).pin w.pass.view.log
    z.pass.view.log e l.did
advanced_so m w z (advance.Held worker at) moved l = absurd moved
advanced_so m w z advance.Spent moved l = absurd moved

-- ---- the whole

-- two attempts to advance the epoch, and then a collection
pub record Relieves (b : TreeView) (w z : WorkerView) : Type 0 where
  pub moved : Advance
  pub once : WorkerView
  pub moves : LeavesAdvance b.layout.workers w once moved
  pub moved_again : Advance
  pub twice : WorkerView
  pub moves_again : LeavesAdvance b.layout.workers once twice moved_again
  pub collected : Collected
  pub collects : LeavesCollect b.layout.nodes twice z collected

-- what was seen before each part of it and after the last
pub record AreSeen {b : TreeView} {w z : WorkerView} (r : Relieves b w z) : Type 0 where
  pub enough : 5 ≤ w.pass.view.layout.nodes
  pub first : HasSeen w.pass.view
  pub second : HasSeen r.once.pass.view
  pub third : HasSeen r.twice.pass.view
  pub last : HasSeen z.pass.view
  pub between : IsBetweenCalls w
  pub between_again : IsBetweenCalls r.once

collect_reads : (n : ℕ) (w z : WorkerView) (c : Collected) → HasSeen w.pass.view → HasSeen z.pass.view
    → LeavesCollect n w z c → epoch_seen w.pass ≤ c.epoch
collect_reads n w z c seen_w seen_z l =
    let sight = l.did.1 in
    reads_no_less w.pass z.pass c.epoch sight.0 (map freeing (ripe_of c.epoch w.queues)) seen_w seen_z l.same l.past
    sight.1
    (l.did.2 ∙ (ap (λ (old : List LogEntry). old ++ map freeing (ripe_of c.epoch w.queues)) sight.2
    ∙ append_assoc w.pass.view.log ((event.Sight, sight.0) ∷ []) (map freeing (ripe_of c.epoch w.queues))))

-- the pass goes on
goes_on : (b : TreeView) (w z : WorkerView) (r : Relieves b w z) → Follows w.pass z.pass
goes_on b w z r = follows_then w.pass r.twice.pass z.pass
    (follows_then w.pass r.once.pass r.twice.pass (record { same = r.moves.same; past = r.moves.past })
    (record { same = r.moves_again.same; past = r.moves_again.past }))
    (record { same = r.collects.same; past = r.collects.past })

all_freed : (b : TreeView) (w z : WorkerView) (r : Relieves b w z) → AreSeen r → HasMoved r.moved
    → HasMoved r.moved_again → Since w.pass z.pass (λ ts. 2 ≤ number_of moves ts) × AreFreed w.queues z.pass
all_freed b w z r s moved again =
    let m = b.layout.workers in
    let layout : r.once.pass.view.layout ≡ w.pass.view.layout = ap (λ (p : PassView). p.view.layout) r.moves.same in
    let one = moves_on w.pass r.once.pass s.enough s.first s.second r.moves.same r.moves.past
    (advanced_so m w r.once r.moved moved r.moves) in
    let two = moves_on r.once.pass r.twice.pass (subst (λ (L : Layout). 5 ≤ L.nodes) (sym layout) s.enough) s.second
    s.third r.moves_again.same r.moves_again.past
    (advanced_so m r.once r.twice r.moved_again again r.moves_again) in
    let three = collect_reads b.layout.nodes r.twice z r.collected s.third s.last r.collects in
    let late : epoch_seen w.pass + 2 ≤ r.collected.epoch = omega (arith, one, two, three) in
    let are = all_labelled w.pass w.queues s.enough s.first s.between.queues in
    let queues : r.twice.queues ≡ w.queues = r.moves_again.queues ∙ r.moves.queues in
    let on = goes_on b w z r in
    let grown = epoch_between w.pass z.pass s.first s.last on.same on.past.goes_on in
    let later = epoch_between r.twice.pass z.pass s.third s.last r.collects.same r.collects.past.goes_on in
    let grace = subst (λ (hs : List HeldQueue). All (λ (e : Entry). IsFreedInGrace z.pass.view e.node)
    (ripe_of r.collected.epoch hs)) queues r.collects.grace in (
      (on.past.goes_on.more, on.past.goes_on.is, omega (arith, one, two, grown, later)),
      λ h there e waits. (All-contains (λ (x : Entry). IsFreedInGrace z.pass.view x.node)
          (ripe_of r.collected.epoch w.queues) e grace (is_ripe_of r.collected.epoch (epoch_seen w.pass) w.queues h e
          late are there waits)).freed,
    )

-- by what each of both advances answered
moved_or : (a : Advance) → ((worker at : ℕ) → a ≢ advance.Held worker at) → (a ≡ advance.Spent) ⊎ HasMoved a
moved_or (advance.Moved e) free = inr tt
moved_or (advance.Lost e) free = inr tt
moved_or (advance.Held worker at) free = absurd (free worker at refl)
moved_or advance.Spent free = inl refl

none_held : (first second : Advance) → found_behind first second ≡ None
    → ((worker at : ℕ) → first ≢ advance.Held worker at) × ((worker at : ℕ) → second ≢ advance.Held worker at)
none_held (advance.Held v a) (advance.Held u c) is = absurd (none-some u (sym is))
none_held (advance.Moved e) (advance.Held u c) is = absurd (none-some u (sym is))
none_held (advance.Lost e) (advance.Held u c) is = absurd (none-some u (sym is))
none_held advance.Spent (advance.Held u c) is = absurd (none-some u (sym is))
none_held (advance.Held v a) (advance.Moved e) is = absurd (none-some v (sym is))
none_held (advance.Held v a) (advance.Lost e) is = absurd (none-some v (sym is))
none_held (advance.Held v a) advance.Spent is = absurd (none-some v (sym is))
none_held (advance.Moved e) (advance.Moved f) is = (λ v a h. (cc), λ v a h. (cc))
none_held (advance.Moved e) (advance.Lost f) is = (λ v a h. (cc), λ v a h. (cc))
none_held (advance.Moved e) advance.Spent is = (λ v a h. (cc), λ v a h. (cc))
none_held (advance.Lost e) (advance.Moved f) is = (λ v a h. (cc), λ v a h. (cc))
none_held (advance.Lost e) (advance.Lost f) is = (λ v a h. (cc), λ v a h. (cc))
none_held (advance.Lost e) advance.Spent is = (λ v a h. (cc), λ v a h. (cc))
none_held advance.Spent (advance.Moved f) is = (λ v a h. (cc), λ v a h. (cc))
none_held advance.Spent (advance.Lost f) is = (λ v a h. (cc), λ v a h. (cc))
none_held advance.Spent advance.Spent is = (λ v a h. (cc), λ v a h. (cc))

-- ---- nothing is won

quiet_wins : (w z : WorkerView) → Quiet w.pass.view.log z.pass.view.log → HasWon w.pass.view.log z.pass.view.log 0 0
quiet_wins w z q = let a = q.links in let b = q.flags in record { links = omega (arith, a); flags = omega (arith, b) }

advance_wins : (m : ℕ) (w z : WorkerView) (a : Advance) → LeavesAdvance m w z a
    → HasWon w.pass.view.log z.pass.view.log 0 0
advance_wins m w z a l = quiet_wins w z (advanced m w.pass.view.number (epochs w.pass).pin w.pass.view.log
    z.pass.view.log a l.did)

collect_wins : (n : ℕ) (w z : WorkerView) (c : Collected) → LeavesCollect n w z c
    → HasWon w.pass.view.log z.pass.view.log 0 0
collect_wins n w z c l = quiet_wins w z (collected w.pass.view.log l.did.0 z.pass.view.log l.did.1.0
    (ripe_of c.epoch w.queues) l.did.1.2 l.did.2)

-- ---- who is held

abbrev Adds : List LogEntry → List LogEntry → Type 0
Adds old new = (xs : List LogEntry) × (new ≡ old ++ xs)

adds_then : (a b c : List LogEntry) → Adds a b → Adds b c → Adds a c
adds_then a b c (xs, is) (ys, then') = (
  xs ++ ys,
  then'
      ∙ (ap (λ (l : List LogEntry). l ++ ys) is ∙ append_assoc a xs ys),
)

-- a sight of the epoch and scans, of which none lets the epoch pass less
scanned : (m me e : ℕ) (pin : Option ℕ) (old mid : List LogEntry) (s : SightThenScans me pin e m old mid)
    → (xs : List LogEntry) × (mid ≡ old ++ (event.Sight, s.1.0) ∷ xs)
scanned m me e pin old mid s =
    let scans = scans_add me pin e m s.0 mid s.2 in (
      scans.0,
      scans.1 ∙ (ap (λ (l : List LogEntry). l ++ scans.0) s.1.2
          ∙ append_assoc old ((event.Sight, s.1.0) ∷ []) scans.0),
    )

scanned_adds : (m me e : ℕ) (pin : Option ℕ) (old mid : List LogEntry) → SightThenScans me pin e m old mid
    → Adds old mid
scanned_adds m me e pin old mid s = let all = scanned m me e pin old mid s in ((event.Sight, s.1.0) ∷ all.0, all.1)

look_adds : (me v : ℕ) (pin found : Option ℕ) (old new : List LogEntry) → LooksAt me pin v found old new → Adds old new
look_adds me v pin found old new (inl own) = ([], own.2 ∙ sym (append-nil old))
look_adds me v pin found old new (inr other) = ((event.Scan v, reply_scan found) ∷ [], other.1)

advance_adds : (m me : ℕ) (pin : Option ℕ) (old new : List LogEntry) (a : Advance) → IsAdvance m me pin old new a
    → Adds old new
advance_adds m me pin old new (advance.Moved next) (e, mid, scans, is, ends) = adds_then old mid new
    (scanned_adds m me e pin old mid scans) ((event.Advance, reply.Moved next) ∷ [], ends)
advance_adds m me pin old new (advance.Lost found) (e, mid, scans, is, ends) = adds_then old mid new
    (scanned_adds m me e pin old mid scans) ((event.Advance, reply.Behind found) ∷ [], ends)
advance_adds m me pin old new (advance.Held worker at) (e, mid, scans, below, apart, look) = adds_then old mid new
    (scanned_adds worker me e pin old mid scans) (look_adds me worker pin (Some at) mid new look)
advance_adds m me pin old new advance.Spent scans = scanned_adds m me last_number pin old new scans

collect_adds : (n : ℕ) (w z : WorkerView) (c : Collected) → LeavesCollect n w z c → Adds w.pass.view.log z.pass.view.log
collect_adds n w z c l = adds_then w.pass.view.log l.did.0 z.pass.view.log ((event.Sight, l.did.1.0) ∷ [], l.did.1.2)
    (map freeing (ripe_of c.epoch w.queues), l.did.2)

-- between two logs the epoch was read, and worker i was found announcing another one
record FoundIn (old new : List LogEntry) (i : ℕ) : Type 0 where
  adds : List LogEntry
  is : new ≡ old ++ adds
  epoch : ℕ
  sees : Reply
  sighted : sight_epoch sees ≡ Some epoch
  read : Contains adds (event.Sight, sees)
  at : ℕ
  found : Contains adds (event.Scan i, reply.In at)
  apart : at ≢ epoch

record ReadIn (old new : List LogEntry) (epoch : ℕ) : Type 0 where
  adds : List LogEntry
  is : new ≡ old ++ adds
  sees : Reply
  sighted : sight_epoch sees ≡ Some epoch
  read : Contains adds (event.Sight, sees)

-- what was found so between two logs was so between an earlier one and a later one
elsewhere_within : (a b c d : List LogEntry) (i : ℕ) → Adds a b → FoundIn b c i → Adds c d → FoundIn a d i
elsewhere_within a b c d i (xs, first) was (ys, last) = record {
  adds = xs ++ (was.adds ++ ys);
  is = last ∙ (ap (λ (l : List LogEntry). l ++ ys) (was.is ∙ ap (λ (l : List LogEntry). l ++ was.adds) first)
      ∙ (append_assoc (a ++ xs) was.adds ys ∙ append_assoc a xs (was.adds ++ ys)));
  epoch = was.epoch;
  sees = was.sees;
  sighted = was.sighted;
  read = among (event.Sight, was.sees) was.read;
  at = was.at;
  found = among (event.Scan i, reply.In was.at) was.found;
  apart = was.apart;
}
  where
    among : (e : LogEntry) → Contains was.adds e → Contains (xs ++ (was.adds ++ ys)) e
    among e there = Contains-append_right xs (was.adds ++ ys) e (Contains-append_left was.adds ys e there)

-- and an epoch that was read between them
read_within : (a b c d : List LogEntry) (e : ℕ) → Adds a b → ReadIn b c e → Adds c d → ReadIn a d e
read_within a b c d e (xs, first) was (ys, last) = record {
  adds = xs ++ (was.adds ++ ys);
  is = last ∙ (ap (λ (l : List LogEntry). l ++ ys) (was.is ∙ ap (λ (l : List LogEntry). l ++ was.adds) first)
      ∙ (append_assoc (a ++ xs) was.adds ys ∙ append_assoc a xs (was.adds ++ ys)));
  sees = was.sees;
  sighted = was.sighted;
  read = Contains-append_right xs (was.adds ++ ys) (event.Sight, was.sees)
      (Contains-append_left was.adds ys (event.Sight, was.sees) was.read);
}

-- an advance that was spent has read the last epoch
last_read : (m me : ℕ) (pin : Option ℕ) (old new : List LogEntry) → IsAdvance m me pin old new advance.Spent
    → ReadIn old new last_number
last_read m me pin old new s =
    let all = scanned m me last_number pin old new s in
    record {
      adds = (event.Sight, s.1.0) ∷ all.0;
      is = all.1;
      sees = s.1.0;
      sighted = s.1.1;
      read = (zero, omega arith, refl);
    }

last_since : (b : TreeView) (w z : WorkerView) (r : Relieves b w z) → AreSeen r
    → (r.moved ≡ advance.Spent) ⊎ (r.moved_again ≡ advance.Spent)
    → Since w.pass z.pass (λ ts. HasSighted w.pass.view.number ts last_number)
last_since b w z r s spent = by (log spent)
  where
    m : ℕ
    m = b.layout.workers

    log : (r.moved ≡ advance.Spent) ⊎ (r.moved_again ≡ advance.Spent)
        → ReadIn w.pass.view.log z.pass.view.log last_number
    log (inl first) =
        read_within w.pass.view.log w.pass.view.log r.once.pass.view.log z.pass.view.log last_number
        ([], sym (append-nil w.pass.view.log))
        (last_read b.layout.workers w.pass.view.number (epochs w.pass).pin w.pass.view.log r.once.pass.view.log
        (subst (λ (a : Advance). IsAdvance b.layout.workers w.pass.view.number (epochs w.pass).pin w.pass.view.log
        r.once.pass.view.log a) first r.moves.did))
        (adds_then r.once.pass.view.log r.twice.pass.view.log z.pass.view.log
        (advance_adds b.layout.workers r.once.pass.view.number (epochs r.once.pass).pin r.once.pass.view.log
        r.twice.pass.view.log r.moved_again r.moves_again.did)
        (collect_adds b.layout.nodes r.twice z r.collected r.collects))
    log (inr second) =
        read_within w.pass.view.log r.once.pass.view.log r.twice.pass.view.log z.pass.view.log last_number
        (advance_adds b.layout.workers w.pass.view.number (epochs w.pass).pin w.pass.view.log r.once.pass.view.log
        r.moved r.moves.did)
        (last_read b.layout.workers r.once.pass.view.number (epochs r.once.pass).pin r.once.pass.view.log
        r.twice.pass.view.log (subst (λ (a : Advance). IsAdvance b.layout.workers r.once.pass.view.number
        (epochs r.once.pass).pin r.once.pass.view.log r.twice.pass.view.log a) second r.moves_again.did))
        (collect_adds b.layout.nodes r.twice z r.collected r.collects)

    by : ReadIn w.pass.view.log z.pass.view.log last_number
        → Since w.pass z.pass (λ ts. HasSighted w.pass.view.number ts last_number)
    by l =
        let on = goes_on b w z r in
        let part = part_since w.pass z.pass l.adds s.first s.last on.same on.past.goes_on l.is in (
          on.past.goes_on.more,
          on.past.goes_on.is,
          (
            l.sees,
            l.sighted,
            made_by w.pass.view.number event.Sight l.sees
                on.past.goes_on.more refl (subst (λ (es : List LogEntry). Contains es (event.Sight, l.sees)) (sym part)
                l.read),
          ),
        )

freed_or_last : (b : TreeView) (w z : WorkerView) (r : Relieves b w z) → AreSeen r
    → found_behind r.moved r.moved_again ≡ None → Since w.pass z.pass
    (λ ts. HasSighted w.pass.view.number ts last_number)
    ⊎ (Since w.pass z.pass (λ ts. 2 ≤ number_of moves ts) × AreFreed w.queues z.pass)
freed_or_last b w z r s none = by (moved_or r.moved (none_held r.moved r.moved_again none).0)
    (moved_or r.moved_again (none_held r.moved r.moved_again none).1)
  where
    by : (r.moved ≡ advance.Spent) ⊎ HasMoved r.moved → (r.moved_again ≡ advance.Spent) ⊎ HasMoved r.moved_again
        → Since w.pass z.pass (λ ts. HasSighted w.pass.view.number ts last_number)
        ⊎ (Since w.pass z.pass (λ ts. 2 ≤ number_of moves ts) × AreFreed w.queues z.pass)
    by (inl spent) second = inl (last_since b w z r s (inl spent))
    by (inr first) (inl spent) = inl (last_since b w z r s (inr spent))
    by (inr first) (inr second) = inr (all_freed b w z r s first second)

-- a worker that rests finds another one, elsewhere
resting : (w : WorkerView) → IsBetweenCalls w → w.pending ≡ None → w.held ≡ None → (epochs w.pass).pin ≡ None
resting w between none free =
    let rests : IsAs w.pass None None = subst (λ (h : Option ℕ). IsAs w.pass None h) free
    (subst (λ p. IsAs w.pass p w.held) none between.stands) in
    rests.unpinned

held_elsewhere : (m : ℕ) (w z : WorkerView) (worker at : ℕ) → (epochs w.pass).pin ≡ None
    → LeavesAdvance m w z (advance.Held worker at) → (worker ≢ w.pass.view.number)
    × FoundIn w.pass.view.log z.pass.view.log worker
held_elsewhere m w z worker at unpinned l = by l.did
  where
    me : ℕ
    me = w.pass.view.number

    old : List LogEntry
    old = w.pass.view.log

    by : IsAdvance m w.pass.view.number (epochs w.pass).pin w.pass.view.log z.pass.view.log (advance.Held worker at)
        → (worker ≢ w.pass.view.number) × FoundIn w.pass.view.log z.pass.view.log worker
    by (e, mid, scans, below, apart, inl own) = absurd (none-some at (sym unpinned ∙ sym own.1))
    by (e, mid, scans, below, apart, inr other) = (
      other.0,
      record {
        adds = (event.Sight, scans.1.0) ∷ ((scanned worker w.pass.view.number e (epochs w.pass).pin w.pass.view.log
            mid scans).0 ++ (event.Scan worker, reply.In at) ∷ []);
        is = other.1 ∙ (ap (λ (l : List LogEntry). l ++ (event.Scan worker, reply.In at) ∷ [])
            (scanned worker w.pass.view.number e (epochs w.pass).pin w.pass.view.log mid scans).1
            ∙ append_assoc w.pass.view.log ((event.Sight, scans.1.0)
            ∷ (scanned worker w.pass.view.number e (epochs w.pass).pin w.pass.view.log mid scans).0)
            ((event.Scan worker, reply.In at) ∷ []));
        epoch = e;
        sees = scans.1.0;
        sighted = scans.1.1;
        read = (zero, omega arith, refl);
        at = at;
        found = Contains-append_right ((event.Sight, scans.1.0)
            ∷ (scanned worker w.pass.view.number e (epochs w.pass).pin w.pass.view.log mid scans).0)
            ((event.Scan worker, reply.In at) ∷ []) (event.Scan worker, reply.In at) (zero, omega arith, refl);
        apart = apart;
      },
    )

another : (b : TreeView) (w z : WorkerView) (r : Relieves b w z) → AreSeen r → w.pending ≡ None → w.held ≡ None
    → (i : ℕ) → found_behind r.moved r.moved_again ≡ Some i
    → (i ≢ w.pass.view.number) × FoundIn w.pass.view.log z.pass.view.log i
another b w z r s none free i is = by r.moved r.moved_again r.moves r.moves_again is
  where
    number : r.once.pass.view.number ≡ w.pass.view.number
    number = ap (λ (p : PassView). p.view.number) r.moves.same

    collects : Adds r.twice.pass.view.log z.pass.view.log
    collects = collect_adds b.layout.nodes r.twice z r.collected r.collects

    second : (u c : ℕ) → LeavesAdvance b.layout.workers r.once r.twice (advance.Held u c) → Some u ≡ Some i
        → (i ≢ w.pass.view.number) × FoundIn w.pass.view.log z.pass.view.log i
    second u c l is =
        let was = held_elsewhere b.layout.workers r.once r.twice u c
        (resting r.once s.between_again (r.moves.place.0 ∙ none) (r.moves.place.1 ∙ free)) l in
        let whole = elsewhere_within w.pass.view.log r.once.pass.view.log r.twice.pass.view.log z.pass.view.log u
        (advance_adds b.layout.workers w.pass.view.number (epochs w.pass).pin w.pass.view.log
        r.once.pass.view.log r.moved r.moves.did) was.1 collects in
        subst (λ (j : ℕ). (j ≢ w.pass.view.number) × FoundIn w.pass.view.log z.pass.view.log j) (same_Some u i is)
        ((λ e. was.0 (e ∙ sym number)), whole)

    first : (v a : ℕ) → LeavesAdvance b.layout.workers w r.once (advance.Held v a) → Some v ≡ Some i
        → (i ≢ w.pass.view.number) × FoundIn w.pass.view.log z.pass.view.log i
    first v a l is =
        let was = held_elsewhere b.layout.workers w r.once v a (resting w s.between none free) l in
        let rest = adds_then r.once.pass.view.log r.twice.pass.view.log z.pass.view.log
        (advance_adds b.layout.workers r.once.pass.view.number (epochs r.once.pass).pin r.once.pass.view.log
        r.twice.pass.view.log r.moved_again r.moves_again.did) collects in
        let whole = elsewhere_within w.pass.view.log w.pass.view.log r.once.pass.view.log z.pass.view.log v
        ([], sym (append-nil w.pass.view.log)) was.1 rest in
        subst (λ (j : ℕ). (j ≢ w.pass.view.number) × FoundIn w.pass.view.log z.pass.view.log j) (same_Some v i is)
        (was.0, whole)

    by : (x y : Advance) → LeavesAdvance b.layout.workers w r.once x
        → LeavesAdvance b.layout.workers r.once r.twice y → found_behind x y ≡ Some i
        → (i ≢ w.pass.view.number) × FoundIn w.pass.view.log z.pass.view.log i
    by x (advance.Held u c) l k is = second u c k is
    by (advance.Held v a) (advance.Moved f) l k is = first v a l is
    by (advance.Held v a) (advance.Lost f) l k is = first v a l is
    by (advance.Held v a) advance.Spent l k is = first v a l is
    by (advance.Moved e) (advance.Moved f) l k is = absurd (none-some i is)
    by (advance.Moved e) (advance.Lost f) l k is = absurd (none-some i is)
    by (advance.Moved e) advance.Spent l k is = absurd (none-some i is)
    by (advance.Lost e) (advance.Moved f) l k is = absurd (none-some i is)
    by (advance.Lost e) (advance.Lost f) l k is = absurd (none-some i is)
    by (advance.Lost e) advance.Spent l k is = absurd (none-some i is)
    by advance.Spent (advance.Moved f) l k is = absurd (none-some i is)
    by advance.Spent (advance.Lost f) l k is = absurd (none-some i is)
    by advance.Spent advance.Spent l k is = absurd (none-some i is)

-- and so by what it has seen
elsewhere : (b : TreeView) (w z : WorkerView) (r : Relieves b w z) → AreSeen r → w.pending ≡ None → w.held ≡ None
    → (i : ℕ) → found_behind r.moved r.moved_again ≡ Some i
    → Since w.pass z.pass (HasFoundElsewhere w.pass.view.number i)
elsewhere b w z r s none free i is = by (another b w z r s none free i is)
  where
    by : (i ≢ w.pass.view.number) × FoundIn w.pass.view.log z.pass.view.log i
        → Since w.pass z.pass (HasFoundElsewhere w.pass.view.number i)
    by (other, l) =
        let on = goes_on b w z r in
        let more = on.past.goes_on.more in
        let part = part_since w.pass z.pass l.adds s.first s.last on.same on.past.goes_on l.is in (
          more,
          on.past.goes_on.is,
          (
            other,
            l.epoch,
            l.at,
            l.apart,
            (
              l.sees,
              l.sighted,
              made_by w.pass.view.number event.Sight l.sees more refl
                  (subst (λ (es : List LogEntry). Contains es (event.Sight, l.sees)) (sym part) l.read),
            ),
            made_by w.pass.view.number (event.Scan i) (reply.In l.at) more refl
                (subst (λ (es : List LogEntry). Contains es (event.Scan i, reply.In l.at)) (sym part) l.found),
          ),
        )

module _ (b : TreeView) (w z : WorkerView) (r : Relieves b w z) (s : AreSeen r) (none : w.pending ≡ None)
    (free : w.held ≡ None) where
  finds : (behind : Option ℕ) → found_behind r.moved r.moved_again ≡ behind
      → Since w.pass z.pass (FindsBehind w.pass.view.number behind)
  finds (Some i) is = elsewhere b w z r s none free i is
  finds None is = elim (freed_or_last b w z r s is) [
    | inl last ↦ (last.0, last.1, inl last.2)
    | inr freed ↦ (freed.0.0, freed.0.1, inr freed.0.2)
  ]

  frees : (behind : Option ℕ) → found_behind r.moved r.moved_again ≡ behind → Collects w z.pass
  frees (Some i) is = let found = elsewhere b w z r s none free i is in inl (found.0, found.1, inl (i, found.2))
  frees None is = elim (freed_or_last b w z r s is) [
    | inl last ↦ inl (last.0, last.1, inr last.2)
    | inr freed ↦ inr freed.1
  ]

  goes : GoesOn (b.layout.nodes + 2 * b.layout.workers + 2) w z
  goes =
      let m = b.layout.workers in
      let first = goes_advance m w r.once free r.moves in
      let second = goes_advance m r.once r.twice first.held r.moves_again in
      let third = goes_collect b.layout.nodes r.twice z second.held r.collects in
      goes_more ((m + 1) + (m + 1) + b.layout.nodes) (b.layout.nodes + 2 * m + 2) w z (omega arith)
      (goes_then w r.twice z (goes_then w r.once r.twice first second) third)

  pub is_relieved : IsRelieved b.layout w z (found_behind r.moved r.moved_again)
  is_relieved = record {
    onward = record {
      on = goes;
      none = r.collects.place.0 ∙ (r.moves_again.place.0 ∙ (r.moves.place.0 ∙ none));
      won = wins_after 0 0 w r.twice z (wins_after 0 0 w r.once r.twice
          (advance_wins b.layout.workers w r.once r.moved r.moves)
          (advance_wins b.layout.workers r.once r.twice r.moved_again r.moves_again))
          (collect_wins b.layout.nodes r.twice z r.collected r.collects);
    };
    finds = finds (found_behind r.moved r.moved_again) refl;
    collects = frees (found_behind r.moved r.moved_again) refl;
  }
