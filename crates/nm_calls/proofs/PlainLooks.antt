-- Looks that are added to a log under a pin for no call: a walk begins, goes on, and tells of its
-- key.
use Rattle.std.proofs.Common.{◌≡◌, ◌≢◌, ◌≤◌, inl, inr, ℕ, zero, suc, ◌+◌, ◌*◌, ◌==◌, Bool, true, false, cond, List, [], ◌∷◌, ◌++◌, append-nil, append_assoc, drop, take, length, refl, sym, ap, subst, ◌∙◌, arith}
use Rattle.std.specs.Prelude.{filter, Option, None, All, Result, Ok, Err, IfOk, IfErr}
use Rattle.std.proofs.lemmas.Result.{IfErr-weaker}
use Rattle.std.specs.List.{list_all}
use Rattle.std.proofs.lemmas.Bool.{and_parts, and_from}
use Rattle.std.proofs.lemmas.List.{drop-append-le, length-append, length-map, map-append, take-append-drop}
use Rattle.std.proofs.lemmas.List.Folds.{list_all-append}
use Rattle.nm_edge.specs.Edges.{Edge}
use Rattle.nm_edge.specs.Keys.{IsKey}
use Rattle.nm_edge.specs.Layouts.{Layout, IsLayout}
use Rattle.nm_edge.specs.declared.edge.Side.{Side}
use Rattle.nm_edge.specs.declared.edge.Side.TheVariants.{Left}
use Rattle.nm_model.specs.declared.event.Event.{Event}
use Rattle.nm_model.specs.declared.event.Event.TheVariants.{Look, Sight, Leave}
use Rattle.nm_model.specs.declared.event.Field.TheVariants.{Edge as EdgeOn}
use Rattle.nm_model.specs.declared.reply.Reply.TheVariants.{EdgeIs, Departed}
use Rattle.nm_model.specs.declared.trace.Turn.{Turn}
use Rattle.nm_model.specs.Ordered.{Configuration, ordered, next_in, trace_in, turn_of, HasKey}
use Rattle.nm_model.specs.declared.knowledge.Brief.{Brief}
use Rattle.nm_model.specs.Searches.{Search, side_of}
use Rattle.nm_model.specs.Walks.{Entry, WalkEnds, begins_anew, since_pin, IsPart}
use Rattle.nm_model.specs.Walks.IsPart.{nothing, takes, skips}
use Rattle.nm_model.specs.Walks.Leads.{begins, leads_on}
use Rattle.nm_order.specs.Exchanges.{is_won_link}
use Rattle.nm_order.specs.Logs.{part_of, known_by}
use Rattle.nm_order.specs.WalkAnswers.{WasSoSince}
use Rattle.nm_order.specs.WalksToArrivals.{is_won_flag}
use Rattle.nm_order.proofs.LogParts.{part_grows, part_itself, part_of_nothing, part_within}
use Rattle.nm_order.proofs.WalksOfRuns.{since_pin-append}
use Rattle.nm_model.specs.Histories.{WasSoBehind}
use Rattle.nm_theorem.proofs.LooksBehind.{was_behind}
use Rattle.nm_order.proofs.WalkAnswers.{walks_tell_of_their_pin}
use Rattle.nm_steps.specs.declared.view.View.{View}
use Rattle.nm_steps.specs.Rules.{Extends}
use Rattle.nm_steps.specs.Steps.{PassView, Stepped, TakesStep, Continues, MayStep, HasSeen}
use Rattle.nm_steps.proofs.Seeing.{same_by_step, same_then, seen_by_turn, seen_through}
use Rattle.nm_epoch.specs.Resting.{IsPinnedAt, IsResting, KeepsHands, epochs}
use Rattle.nm_epoch.proofs.KeptHands.{kept_on}
use Rattle.nm_epoch.proofs.Allowed.{may_leave}
use Rattle.nm_epoch.specs.Tries.{IsPinnedBy, IsMoved}
use Rattle.nm_walks.specs.declared.looking.Onward.{Onward}
use Rattle.nm_walks.specs.AddedLooks.{is_look, AddsLooks}
use Rattle.nm_calls.specs.PlainWalks.{HasEndedAt, HasEndedSo, HasPassed, LooksUnderPin, PlainMissed, WasSo, after_entries, events_of, most_looks}
use Rattle.nm_calls.specs.NearKeys.{AfterNear, GiveUp, WasNear}
use Rattle.nm_calls.specs.declared.fault.CallFault.{CallFault}
use Rattle.nm_calls.specs.declared.fault.CallFault.TheVariants as fault
use Rattle.nm_walks.specs.Bounds.{reach}
use Rattle.nm_walks.specs.Telling.{GoesOn, OnlyLooks}
use Rattle.nm_walks.specs.Walks.{Reads}
use Rattle.nm_walks.specs.WonCounts.{is_won_splice}
use Rattle.nm_walks.proofs.Adding.{Adds, adds_then, adds_these}
use Rattle.nm_calls.proofs.Adding.{plain_pin_adds, plain_moved_adds, has_won, cuts_none}
use Rattle.nm_walks.proofs.Looks.{enough}
use Rattle.nm_walks.proofs.PlainLooks.{first_look, look_is, looks_longer, node_looks, read_grows, since_grows, walk_looks}

-- ---- looks alone

pub no_looks : (old : List Entry) → AddsLooks 0 old old
no_looks old = record { looks = []; grown = sym (append-nil old); only = refl; few = omega arith }

pub looks_in : {n : ℕ} (m : ℕ) (old new : List Entry) → n ≤ m → AddsLooks n old new → AddsLooks m old new
looks_in m old new le a = let few = a.few in
    record { looks = a.looks; grown = a.grown; only = a.only; few = omega (arith, le, few) }

pub looks_then : {n m : ℕ} (old mid new : List Entry) → AddsLooks n old mid → AddsLooks m mid new
    → AddsLooks (n + m) old new
looks_then {n} {m} old mid new a b = record {
  looks = a.looks ++ b.looks;
  grown = b.grown ∙ (ap (λ (l : List Entry). l ++ b.looks) a.grown ∙ append_assoc old a.looks b.looks);
  only = list_all-append is_look a.looks b.looks ∙ and_from (list_all is_look a.looks) (list_all is_look b.looks)
      a.only b.only;
  few = let x = a.few in let y = b.few in let l = length-append a.looks b.looks in omega (arith, x, y, l);
}

pub not_shorter : {m : ℕ} (p q : PassView) → AddsLooks m p.view.log q.view.log → length p.view.log ≤ length q.view.log
not_shorter p q a = let long = ap length a.grown in let sum =
    length-append p.view.log a.looks in omega (arith, long, sum)

-- one look, and the three by which a node is read
abbrev pub look_added : (p q : PassView) (x : ℕ) (side : Side) (e : Edge)
    → Stepped p q (Look x (EdgeOn side)) (EdgeIs e) → AddsLooks 1 p.view.log q.view.log
look_added p q x side e step = record {
  looks = (Look x (EdgeOn side), EdgeIs e)
      ∷ [];
  grown = ap (λ (s : PassView). s.view.log) step;
  only = refl;
  few = omega arith;
}

-- ---- looks win nothing

-- of none of them the test is true
none_of : (test : Entry → Bool) → ((e : Entry) → is_look e ≡ true → test e ≡ false) → (looks : List Entry)
    → list_all is_look looks ≡ true → filter test looks ≡ []
none_of test fails [] only = refl
none_of test fails (e ∷ es) only =
    let parts = and_parts (is_look e) (list_all is_look es) only in
    ap (λ (b : Bool). cond b (e ∷ filter test es) (filter test es)) (fails e parts.0) ∙ none_of test fails es parts.1

pub looks_add : {n : ℕ} (old new : List Entry) → AddsLooks n old new → Adds 0 0 0 n old new
looks_add {n} old new a =
    let these = adds_these a.looks old new a.grown in
    let links = none_of is_won_link (look_is (λ e. is_won_link e ≡ false) (λ x f r. refl)) a.looks a.only in
    let flags = none_of is_won_flag (look_is (λ e. is_won_flag e ≡ false) (λ x f r. refl)) a.looks a.only in
    let splices = none_of is_won_splice (look_is (λ e. is_won_splice e ≡ false) (λ x f r. refl)) a.looks a.only in
    record {
      links = these.links ∙ ap (λ (l : List Entry). length (filter is_won_link old) + length l) links;
      flags = these.flags ∙ ap (λ (l : List Entry). length (filter is_won_flag old) + length l) flags;
      splices = these.splices ∙ ap (λ (l : List Entry). length (filter is_won_splice old) + length l) splices;
      steps = let few = a.few in let steps = these.steps in omega (arith, few, steps);
    }

-- ---- a walk stays in the log

module _ {n : ℕ} (p q : PassView) (a : AddsLooks n p.view.log q.view.log) where
  pub part_still : (looks : List Entry) → IsPart looks (since_pin [] p.view.log)
      → IsPart looks (since_pin [] q.view.log)
  part_still looks part = subst (IsPart looks) (sym (since_grows p.view.log q.view.log a)) (part_grows a.looks part)

  pub come_still : (m k slot : ℕ) → HasPassed m p.view.log k slot → HasPassed m q.view.log k slot
  come_still m k slot c = (
    c.0,
    c.1,
    record {
      looks = c.2.looks;
      leads = c.2.leads;
      is_part = part_still c.2.looks
          c.2.is_part;
    },
    c.3,
  )

  pub ended_still : (k : ℕ) (answer : Bool) → HasEndedSo p k answer → HasEndedSo q k answer
  ended_still k answer e = (
    e.0,
    e.1,
    e.2,
    e.3,
    record {
      looks = e.4.looks;
      leads = e.4.leads;
      null = e.4.null;
      is_null = e.4.is_null;
      is_part = part_still _ e.4.is_part;
    },
    e.5,
  )

  pub ended_at_still : (k leaf : ℕ) → HasEndedAt p k leaf → HasEndedAt q k leaf
  ended_at_still k leaf e = (
    e.0,
    e.1,
    record {
      looks = e.2.looks;
      leads = e.2.leads;
      null = e.2.null;
      is_null =
          e.2.is_null;
      is_part = part_still _ e.2.is_part;
    },
  )

-- ---- the log after its first entries

-- the last looks of a log are added to it after any entries that it had
pub looks_after : {m : ℕ} (n : ℕ) (old new : List Entry) → n ≤ length old → AddsLooks m old new
    → AddsLooks m (drop n old) (drop n new)
looks_after n old new le a =
    record {
      looks = a.looks;
      grown = ap (drop n) a.grown ∙ drop-append-le n old a.looks le;
      only = a.only;
      few =
          a.few;
    }

-- a part of a first list, and what follows in both
part_and_more : {xs ys : List Entry} → IsPart xs ys → (zs : List Entry) → IsPart (xs ++ zs) (ys ++ zs)
part_and_more nothing zs = part_itself zs
part_and_more (takes p) zs = takes (part_and_more p zs)
part_and_more (skips p) zs = skips (part_and_more p zs)

since_part : (es xs ys : List Entry) → IsPart xs ys → IsPart (since_pin xs es) (since_pin ys es)
since_part [] xs ys part = part
since_part (e ∷ es) xs ys part =
    since_part es (cond (begins_anew e) [] (xs ++ e ∷ [])) (cond (begins_anew e) [] (ys ++ e ∷ [])) (by (begins_anew e))
  where
    by : (b : Bool) → IsPart (cond b [] (xs ++ e ∷ [])) (cond b [] (ys ++ e ∷ []))
    by true = nothing
    by false = part_and_more part (e ∷ [])

-- what was looked at after the first n entries was looked at in all
pub part_of_all : (n : ℕ) (log : List Entry) → IsPart (since_pin [] (drop n log)) (since_pin [] log)
part_of_all n log =
    subst (λ (l : List Entry). IsPart (since_pin [] (drop n log)) (since_pin [] l)) (take-append-drop n log)
    (subst (IsPart (since_pin [] (drop n log))) (sym (since_pin-append [] (take n log) (drop n log)))
    (since_part (drop n log) [] (since_pin [] (take n log)) (part_of_nothing (since_pin [] (take n log)))))

-- so are the walks
pub passed_in_all : (n m k slot : ℕ) (log : List Entry) → HasPassed m (drop n log) k slot → HasPassed m log k slot
passed_in_all n m k slot log c = (
  c.0,
  c.1,
  record {
    looks = c.2.looks;
    leads = c.2.leads;
    is_part =
        part_within (part_of_all n log) c.2.looks c.2.is_part;
  },
  c.3,
)

pub ends_in_all : (n k slot parent : ℕ) (side : Side) (v : ℕ) (log : List Entry)
    → WalkEnds k (since_pin [] (drop n log)) slot parent side v → WalkEnds k (since_pin [] log) slot parent side v
ends_in_all n k slot parent side v log w =
    record {
      looks = w.looks;
      leads = w.leads;
      null = w.null;
      is_null = w.is_null;
      is_part =
          part_within (part_of_all n log) _ w.is_part;
    }

pub ended_in_all : (n : ℕ) (p : PassView) (k : ℕ) (answer : Bool) → HasEndedSo (after_entries n p) k answer
    → HasEndedSo p k answer
ended_in_all n p k answer e = (e.0, e.1, e.2, e.3, ends_in_all n k e.0 e.1 e.3 e.2 p.view.log e.4, e.5)

pub ended_at_in_all : (n : ℕ) (p : PassView) (k leaf : ℕ) → HasEndedAt (after_entries n p) k leaf → HasEndedAt p k leaf
ended_at_in_all n p k leaf e = (e.0, e.1, ends_in_all n k leaf e.0 e.1 k p.view.log e.2)

-- ---- a walk begins

-- after any entries that the log had
pub comes_first_after : (n : ℕ) (p q : PassView) (e : Edge) → Stepped p q (Look 2 (EdgeOn Left)) (EdgeIs e)
    → n ≤ length p.view.log → e.slot ≢ 0 → (k : ℕ) → HasPassed 0 (drop n q.view.log) k e.slot
comes_first_after n p q e step le some k = (
  2,
  Left,
  record {
    looks = (Look 2 (EdgeOn Left), EdgeIs e) ∷ [];
    leads = begins e some;
    is_part = subst (λ (log : List Entry). IsPart ((Look 2 (EdgeOn Left), EdgeIs e) ∷ []) (since_pin [] log))
        (sym (ap (λ (s : PassView). drop n s.view.log) step
        ∙ drop-append-le n p.view.log ((Look 2 (EdgeOn Left), EdgeIs e) ∷ []) le))
        (first_look (drop n p.view.log) e);
  },
  omega arith,
)

pub comes_first : (p q : PassView) (e : Edge) → Stepped p q (Look 2 (EdgeOn Left)) (EdgeIs e) → e.slot ≢ 0 → (k : ℕ)
    → HasPassed 0 q.view.log k e.slot
comes_first p q e step some k = (
  2,
  Left,
  record {
    looks = (Look 2 (EdgeOn Left), EdgeIs e) ∷ [];
    leads = begins e some;
    is_part = subst (λ (log : List Entry). IsPart ((Look 2 (EdgeOn Left), EdgeIs e) ∷ []) (since_pin [] log))
        (sym (ap (λ (s : PassView). s.view.log) step)) (first_look p.view.log e);
  },
  omega arith,
)

-- ---- and goes on

-- a node is read after any entries that the log had
pub reads_after : (n k x : ℕ) (old new : List Entry) (on : Onward) → n ≤ length old → Reads k x old new on
    → Reads k x (drop n old) (drop n new) on
reads_after n k x old new on le r = (
  r.0,
  r.1,
  ap (drop n) (read_grows k x old new on r)
      ∙ (drop-append-le n old (node_looks x on.found r.0 r.1) le
      ∙ sym (read_grows k x (drop n old) _ on (r.0, r.1, refl, r.3, r.4))),
  r.3,
  r.4,
)

module _ (p q : PassView) (n k x : ℕ) (on : Onward) (r : Reads k x p.view.log q.view.log on) where
  pub comes_on : HasPassed n p.view.log k x → on.next.slot ≢ 0 → HasPassed (n + 1) q.view.log k on.next.slot
  comes_on c some = (
    x,
    side_of k on.found,
    record {
      looks = c.2.looks ++ walk_looks k x on;
      leads = leads_on c.2.leads on.found on.next some;
      is_part =
          looks_longer p.view.log q.view.log k x on r c.2.looks c.2.is_part;
    },
    (let many = c.3 in let more = length-append c.2.looks (walk_looks k x on) in omega (arith, many, more)),
  )

  pub ends_so : HasPassed n p.view.log k x → on.next.slot ≡ 0 → HasEndedSo q k (on.found == k)
  ends_so c null = (
    x,
    c.0,
    on.found,
    c.1,
    record {
      looks = c.2.looks;
      leads = c.2.leads;
      null = on.next;
      is_null =
          null;
      is_part = looks_longer p.view.log q.view.log k x on r c.2.looks c.2.is_part;
    },
    refl,
  )

-- ---- the answer

-- what a view has seen, as events
pub record AreEvents (v : View) : Type 0 where
  pub keys : All (λ t. HasKey t.1) (events_of v.past)
  pub are : v.past ≡ trace_in (ordered v.layout) (events_of v.past)
  pub is_part : part_of v.number (trace_in (ordered v.layout) (events_of v.past)) ≡ v.log

pub events_of_trace : (c : Configuration) (ts : List (ℕ × Event)) → events_of (trace_in c ts) ≡ ts
unfolding trace_in
events_of_trace c [] = refl
events_of_trace c (t ∷ ts) = ap (λ (us : List (ℕ × Event)). t ∷ us) (events_of_trace (next_in c t) ts)

pub as_events : (v : View) → HasSeen v → AreEvents v
as_events v seen =
    let same : events_of v.past ≡ seen.events = ap events_of seen.are
    ∙ events_of_trace (ordered v.layout) seen.events in
    record {
      keys = subst (λ (ts : List (ℕ × Event)). All (λ t. HasKey t.1) ts) (sym same) seen.keys;
      are = seen.are ∙ ap (trace_in (ordered v.layout)) (sym same);
      is_part = ap (λ (ts : List (ℕ × Event)). part_of v.number (trace_in (ordered v.layout) ts)) same
          ∙ (ap (part_of v.number) (sym seen.are) ∙ seen.is_part);
    }

-- the events of turns that go on
pub events_go_on : (run earlier : List Turn) → (e : Extends run earlier)
    → events_of run ≡ events_of earlier ++ events_of e.more
events_go_on run earlier e = ap events_of e.is ∙ map-append turn_of earlier e.more

was_so_longer : (L : Layout) (past turns later : List Turn) (w k : ℕ) (answer : Bool) → Extends later turns
    → WasSoBehind L past turns w k answer → WasSoBehind L past later w k answer
was_so_longer L past turns later w k answer more was = record {
  so_far = was.so_far;
  rest = was.rest ++ more.more;
  are = more.is ∙ (ap (λ (l : List Turn). l ++ more.more) was.are ∙ append_assoc was.so_far was.rest more.more);
  later = was.later;
  pinned = was.pinned;
  gives = was.gives;
}

-- a walk has ended under the pin that a has taken behind o, and q is where the worker has left it
pub was_so : (o a p q : PassView) → HasSeen o.view → IsLayout o.view.layout → (epochs o).pin ≡ None → Continues o a
    → GoesOn a p → HasSeen p.view → TakesStep p q Leave Departed
    → (k : ℕ) (answer : Bool) → IsKey k → HasEndedSo p k answer → WasSo o q k answer
was_so o a p q first fits unpinned pinned walked mid leaves k answer key e =
    let same = same_then o a p pinned.same walked.same in
    let past = seen_through o a p pinned.past walked.past in
    let seen : AreEvents p.view = as_events p.view mid in
    let grown : events_of p.view.past ≡ events_of o.view.past
    ++ events_of past.goes_on.more = events_go_on p.view.past o.view.past past.goes_on in
    subst (λ (s : PassView). WasSoBehind s.view.layout o.view.past q.view.past s.view.number k answer)
    (sym (same_by_step p q Leave Departed leaves.step))
    (was_so_longer p.view.layout o.view.past p.view.past q.view.past p.view.number k answer
    (seen_by_turn p q Leave Departed leaves.past).goes_on
    (was_behind p.view.layout (subst IsLayout (sym (ap (λ (s : PassView). s.view.layout) same)) fits)
    (events_of o.view.past) (events_of p.view.past) o.view.past p.view.past (sym (length-map o.view.past turn_of))
    seen.are p.view.number k answer
    (subst (λ (s : PassView). WasSoSince s.view.layout (events_of o.view.past) (events_of p.view.past) s.view.number
    k answer) (sym same)
    (subst (λ (b : Bool). WasSoSince o.view.layout (events_of o.view.past) (events_of p.view.past) o.view.number k b)
    (sym e.5)
    (subst (λ (turns : List (ℕ × Event)). WasSoSince o.view.layout (events_of o.view.past) turns o.view.number k
    (e.2 == k)) (sym grown)
    (walks_tell_of_their_pin o.view.layout (enough o.view.layout fits) o.view.number first.worker
    (events_of o.view.past) (events_of past.goes_on.more)
    (subst (λ (turns : List (ℕ × Event)). All (λ t. HasKey t.1) turns) grown seen.keys)
    (subst (λ (l : List Entry). (known_by o.view.layout o.view.number l).brief.pin ≡ None)
    (sym (as_events o.view first).is_part) unpinned)
    p.view.log
    (ap (λ (turns : List (ℕ × Event)). part_of o.view.number (trace_in (ordered o.view.layout) turns)) (sym grown)
    ∙ subst (λ (s : PassView). part_of s.view.number (trace_in (ordered s.view.layout) (events_of p.view.past))
    ≡ p.view.log) same seen.is_part)
    k e.0 e.1 e.3 e.2 (let le = key in omega (arith, le)) e.4))))))

-- ---- the whole call

-- the worker may leave where its walks end
pub may_end : (e : ℕ) (a p : PassView) → IsPinnedAt e None a → OnlyLooks a p → MayStep p Leave
may_end e a p at only = may_leave p (ap (λ (b : Brief). b.unlabelled) only.epochs ∙ at.labelled)
    (only.linked ∙ ap (λ (s : Search). s.linked) at.begun) (only.swapped ∙ ap (λ (s : Search). s.swapped) at.begun)
    (only.flagged ∙ ap (λ (s : Search). s.flagged) at.begun)

-- a pin, looks and a leave: what they add
pub call_adds : (tries most : ℕ) (old new : List Entry) → LooksUnderPin tries most old new
    → Adds 0 0 0 (2 * tries + 1 + (most + 1)) old new
call_adds tries most old new h = adds_then old h.pinned new (plain_pin_adds tries old h.pinned h.epoch h.pin)
    (adds_then h.pinned h.looked new (looks_add h.pinned h.looked h.looks) (adds_these _ h.looked new h.leaves))

-- where there was no answer: each try of the pin was lost
pub pin_missed : (gives_up : List Entry → List Entry → Type 0) (tries : ℕ) (old new : List Entry) → tries ≢ 0
    → IsMoved Sight tries old new → PlainMissed gives_up tries old new
pin_missed gives_up zero old new some moved = absurd (some refl)
pin_missed gives_up (suc t) old new some moved = inl moved

-- or the walks gave up
pub walks_missed : (gives_up : List Entry → List Entry → Type 0) (tries : ℕ) (old a z new : List Entry) (epoch : ℕ)
    → IsPinnedBy Sight tries old a epoch → gives_up a z → new ≡ z ++ (Leave, Departed) ∷ []
    → PlainMissed gives_up tries old new
walks_missed gives_up zero old a z new epoch pin gives leaves = let few = pin.3 in absurd (omega (arith, few))
walks_missed gives_up (suc t) old a z new epoch pin gives leaves = inr (a, z, epoch, pin, gives, leaves)

-- a call for the nearest key that has lost each try of its pin
pub after_no_pin : (side : Side) (L : Layout) (tries k : ℕ) (o a : PassView) → tries ≢ 0
    → Continues o a → IsMoved Sight tries o.view.log a.view.log → IsResting a → KeepsHands o a
    → AfterNear side L tries k o a (Err fault.Busy)
after_no_pin side L tries k o a some pinning moved rests kept =
    let added = plain_moved_adds tries o.view.log a.view.log moved in
    record {
      same = pinning.same;
      past = pinning.past;
      did = tt;
      moment = tt;
      busy = refl;
      missed = pin_missed (GiveUp side L tries k) tries o.view.log a.view.log some moved;
      won = has_won _ _ added;
      uncut = cuts_none _ _ added;
      steps = (let few = added.steps in omega (arith, few));
      rests = rests;
      hands = kept;
    }

-- and one that pins at a, has walked at p, and has left at q
pub after_walks : (side : Side) (L : Layout) (tries k epoch : ℕ) (o a p q : PassView) (r : Result (Option ℕ) CallFault)
    → Continues o a → IsPinnedBy Sight tries o.view.log a.view.log epoch → KeepsHands o a
    → GoesOn a p → OnlyLooks a p → AddsLooks (tries * most_looks (reach L) 1) a.view.log p.view.log
    → TakesStep p q Leave Departed → IsResting q → KeepsHands p q
    → IfOk r (WasNear side o q k) → IfErr r (λ e. GiveUp side L tries k a.view.log p.view.log)
    → IfErr r (λ e. e ≡ fault.Busy) → AfterNear side L tries k o q r
after_walks side L tries k epoch o a p q r pinning pinned hands walked only looks leaves rests kept moment given_up
    busy =
    let did : LooksUnderPin tries (tries * most_looks (reach L) 1) o.view.log q.view.log =
    record {
      pinned = a.view.log;
      epoch = epoch;
      pin = pinned;
      looked = p.view.log;
      looks = looks;
      leaves = ap
          (λ (s : PassView). s.view.log) leaves.step;
    } in
    let added = call_adds tries (tries * most_looks (reach L) 1) o.view.log q.view.log did in
    record {
      same = same_then o p q (same_then o a p pinning.same walked.same) (same_by_step p q Leave Departed leaves.step);
      past = seen_through o p q (seen_through o a p pinning.past walked.past)
          (seen_by_turn p q Leave Departed leaves.past);
      did = any_ok r did;
      moment = moment;
      busy = busy;
      missed = IfErr-weaker r _ _ (λ e gives. walks_missed (GiveUp side L tries k) tries o.view.log a.view.log
          p.view.log q.view.log epoch pinned gives did.leaves) given_up;
      won = has_won _ _ added;
      uncut = cuts_none _ _ added;
      steps = (let few = added.steps in omega (arith, few));
      rests = rests;
      hands = kept_on o p q (kept_on o a p hands looks_keep) kept;
    }
  where
    any_ok : {P : Type 0} (x : Result (Option ℕ) CallFault) → P → IfOk x (λ found. P)
    any_ok (Ok found) did = did
    any_ok (Err e) did = tt

    looks_keep : KeepsHands a p
    looks_keep = record {
      private = only.private;
      labelled = λ was. ap (λ (b : Brief). b.unlabelled) only.epochs
          ∙ was;
      ledgers = λ was. only.ledgers;
    }
