-- The parts of a try of a put.
use Rattle.std.proofs.Common.{◌≡◌, ◌≢◌, ◌<◌, ℕ, false, List, [], length, refl, sym, ap, subst, ◌∙◌}
use Rattle.std.specs.Prelude.{None, Option, Some, option_map}
use native.Mathlib.Decide.{ℕ_discrete}
use Rattle.std.proofs.lemmas.Bool.{ne_eqb}
use Rattle.std.proofs.lemmas.Option.{same_Some}
use Rattle.nm_edge.specs.Edges.{Edge}
use Rattle.nm_edge.specs.Keys.{IsKey}
use Rattle.nm_edge.specs.Layouts.{Layout}
use Rattle.nm_edge.specs.declared.edge.Side.{Side}
use Rattle.nm_edge.specs.declared.node.NodeId.{NodeId}
use Rattle.nm_edge.specs.declared.placement.Fit.{Fit}
use Rattle.nm_model.specs.declared.event.Op.TheVariants.{Insert}
use Rattle.nm_model.specs.declared.knowledge.Brief.{Brief}
use Rattle.nm_model.specs.declared.ledger.Ledger.{Ledger}
use Rattle.nm_model.specs.Ledgers.{held}
use Rattle.nm_model.specs.Maps.{get}
use Rattle.nm_model.specs.Searches.{Search}
use Rattle.nm_model.specs.Walks.{Entry, IsOfWalk, WalkEnds, since_pin}
use Rattle.nm_laws.proofs.WalksOfLogs.{arrivals_are_walks}
use Rattle.nm_order.specs.Facts.Since.{ThePin}
use Rattle.nm_order.specs.Facts.Fact.{KnowsSlot, CallIs, EndedAt}
use Rattle.nm_pool.specs.Claims.{IsClaimBy}
use Rattle.nm_steps.specs.Rules.{knowledge, value_of}
use Rattle.nm_steps.specs.Steps.{HasSeenAllOf, IsInRun, IsSamePass, PassView}
use Rattle.nm_steps.specs.Values.{HasSeenStores}
use Rattle.nm_steps.proofs.Seeing.{continues_then, seen_itself, stores_same}
use Rattle.nm_epoch.specs.Resting.{search}
use Rattle.nm_walks.specs.declared.seek_record.ChainEdge.{ChainEdge}
use Rattle.nm_walks.specs.declared.seek_record.WalkEnd.{WalkEnd}
use Rattle.nm_walks.specs.Cleanups.{KeepsLedgers, OnlyCleans}
use Rattle.nm_walks.specs.Growing.{HasNewNodes, KeepsCall}
use Rattle.nm_walks.specs.Making.{OnlyMakes}
use Rattle.nm_walks.specs.Bounds.{chain_bound}
use Rattle.nm_walks.specs.Telling.{GoesOn, OnlyLooks, Tells}
use Rattle.nm_walks.specs.Walks.{HasFound, IsAt, Seeks}
use Rattle.nm_walks.proofs.ShortWalks.{key_of_call}
use Rattle.nm_walks.proofs.Standing.{at_kept}
use Rattle.nm_calls.specs.Leaving.{EndedWith}
use Rattle.nm_calls.specs.PlainWalks.{HasEndedSo}
use Rattle.nm_calls.proofs.Forks.{going_continues}
use Rattle.nm_calls.proofs.KeptLedgers.{ledgers_then}
use Rattle.nm_calls.proofs.MadeLeaves.{put_earlier}
use Rattle.nm_calls.proofs.TakenValues.{walk_ended}
use Rattle.nm_puts.specs.Leaves.{HoldsNewLeaf}
use Rattle.nm_puts.specs.declared.putting.Attempt.{Attempt}
use Rattle.nm_puts.specs.declared.putting.Attempt.TheVariants as attempt
use Rattle.nm_puts.specs.declared.putting.Condition.{Condition}
use Rattle.nm_puts.specs.declared.putting.Condition.TheVariants as condition
use Rattle.nm_puts.specs.declared.putting.PutOutcome.TheVariants as put
use Rattle.nm_puts.specs.Puts.{HasPutNothing, IfReplaced, IsExpected, MayReplace, OnlyPuts, ReplacesAt, ShowsTry, TryDoes, WalksFor}
use Rattle.nm_puts.specs.Replaced.{HasReplaced}
use Rattle.nm_puts.proofs.ReplacedValues.{replaced_since}
use Rattle.nm_puts.specs.Swaps.{HasNotSwapped, HasSwapped, KeepsRest, MaySwap, ValueWas}
use Rattle.nm_puts.proofs.UnderPins.{claim_under, leaf_is_high, under_none, under_then}

-- ---- what may have changed

pub same_ledgers : (p q : PassView) → (knowledge q.view).ledgers ≡ (knowledge p.view).ledgers → KeepsLedgers p q
same_ledgers p q is = record {
  others = λ o other. ap (λ ls. held ls o) is;
  freed = ap (λ ls. option_map (λ (l : Ledger). l.freed) (held ls p.view.number)) is;
}

pub makes_puts : (p q : PassView) → OnlyMakes p q → OnlyPuts p q
makes_puts p q only = record {
  announcement = ap (λ (b : Brief). b.announcement) only.epochs;
  pin = ap (λ (b : Brief). b.pin) only.epochs;
  labelled = λ was. ap (λ (b : Brief). b.unlabelled) only.epochs ∙ was;
  call = ap (λ (s : Search). s.call) only.search;
  flagged = ap (λ (s : Search). s.flagged) only.search;
  ledgers = same_ledgers p q only.ledgers;
}

pub looks_puts : (p q : PassView) → OnlyLooks p q → OnlyPuts p q
looks_puts p q only = record {
  announcement = ap (λ (b : Brief). b.announcement) only.epochs;
  pin = ap (λ (b : Brief). b.pin) only.epochs;
  labelled = λ was. ap (λ (b : Brief). b.unlabelled) only.epochs ∙ was;
  call = only.call;
  flagged = only.flagged;
  ledgers = same_ledgers p q only.ledgers;
}

pub cleans_puts : (p q : PassView) → OnlyCleans p q → OnlyPuts p q
cleans_puts p q only = record {
  announcement = only.announcement;
  pin = only.pin;
  labelled = only.labelled;
  call = only.call;
  flagged = only.flagged;
  ledgers = only.ledgers;
}

pub rest_puts : (p q : PassView) → KeepsRest p q → OnlyPuts p q
rest_puts p q only = record {
  announcement = only.announcement;
  pin = only.pin;
  labelled = only.labelled;
  call = only.call;
  flagged = only.flagged;
  ledgers = only.ledgers;
}

pub grows_puts : (p q : PassView) → KeepsCall p q → OnlyPuts p q
grows_puts p q only = record {
  announcement = ap (λ (b : Brief). b.announcement) only.epochs;
  pin = ap (λ (b : Brief). b.pin) only.epochs;
  labelled = λ was. ap (λ (b : Brief). b.unlabelled) only.epochs ∙ was;
  call = only.call;
  flagged = only.flagged;
  ledgers = same_ledgers p q only.ledgers;
}

pub puts_then : (o p q : PassView) → IsSamePass o p → OnlyPuts o p → OnlyPuts p q → OnlyPuts o q
puts_then o p q same a b = record {
  announcement = b.announcement ∙ a.announcement;
  pin = b.pin ∙ a.pin;
  labelled = λ was. b.labelled (a.labelled was);
  call = b.call ∙ a.call;
  flagged = b.flagged ∙ a.flagged;
  ledgers = ledgers_then o p q same a.ledgers b.ledgers;
}

-- ---- nothing was linked or swapped

pub makes_nothing : (p q : PassView) → OnlyMakes p q → HasPutNothing p q
makes_nothing p q only = record {
  linked = ap (λ (s : Search). s.linked) only.search;
  swapped = ap
      (λ (s : Search). s.swapped) only.search;
}

pub looks_nothing : (p q : PassView) → OnlyLooks p q → HasPutNothing p q
looks_nothing p q only = record { linked = only.linked; swapped = only.swapped }

pub cleans_nothing : (p q : PassView) → OnlyCleans p q → HasPutNothing p q
cleans_nothing p q only = record { linked = only.linked; swapped = only.swapped }

pub nothing_then : (o p q : PassView) → HasPutNothing o p → HasPutNothing p q → HasPutNothing o q
nothing_then o p q a b = record { linked = b.linked ∙ a.linked; swapped = b.swapped ∙ a.swapped }

-- ---- a swap at the end of a walk

pub may_swap_there : (p q : PassView) (k : ℕ) (r : WalkEnd) (c : List ChainEdge) (n : NodeId) → MayReplace p k r c
    → GoesOn p q → OnlyMakes p q
    → HoldsNewLeaf p q n → MaySwap q k r n
may_swap_there p q k r c n may on only has = record {
  is_key = may.is_key;
  call = on.keeps (CallIs Insert k) may.call;
  unlinked = ap (λ (s : Search). s.linked) only.search ∙ may.unlinked;
  unswapped = ap (λ (s : Search). s.swapped) only.search ∙ may.unswapped;
  parent = on.keeps (KnowsSlot r.seek_record.parent) may.at.parent;
  known = on.keeps (KnowsSlot r.seek_record.edge.slot) may.at.node;
  ended = on.keeps (EndedAt ThePin k r.seek_record.edge.slot r.seek_record.parent r.seek_record.side k) may.ended;
  new_birth = has.has_birth;
}

-- a won swap takes the new leaf
pub swapped_in : (o p q : PassView) (k : ℕ) (r : WalkEnd) (n : NodeId) → HoldsNewLeaf o p n → HasSwapped p q k r n
    → HasNewNodes o q None
swapped_in o p q k r n h won s = elim (ℕ_discrete s n.slot) [
  | yes at ↦ rw at (won.given ∙ sym h.was)
  | no ne ↦ won.others s ne ∙ h.others s ne
]

-- and a lost one leaves it
pub still_new : (o p q : PassView) (k : ℕ) (r : WalkEnd) (n : NodeId) (e : Edge) → HoldsNewLeaf o p n
    → HasNotSwapped p q k r n e → HoldsNewLeaf o q n
still_new o p q k r n e h lost = record {
  has_birth = lost.new_birth;
  others = λ s ne. lost.others s ne ∙ h.others s ne;
  was = h.was;
}

-- a value that was read before the claim
pub was_before : (m p q : PassView) (k leaf v : ℕ) (f : Fit) (nodes : ℕ) (n : NodeId) → ValueWas m p k leaf v
    → GoesOn p q
    → IsClaimBy f nodes p.view.log q.view.log (Some n) → ValueWas m q k leaf v
was_before m p q k leaf v f nodes n was on claim = record {
  on = continues_then m p q was.on (going_continues p q on);
  under = under_then m.view.log p.view.log q.view.log was.under (claim_under f nodes p.view.log q.view.log n claim);
  read = was.read;
  at = was.at;
}

-- the end of the walk stays known
pub ended_still : (p q : PassView) (k : ℕ) (r : WalkEnd) (c : List ChainEdge) → MayReplace p k r c → GoesOn p q
    → (leaf : ℕ) × EndedWith q ThePin k leaf k
ended_still p q k r c may on = (
  r.seek_record.edge.slot,
  (
    r.seek_record.parent,
    r.seek_record.side,
    on.keeps
        (EndedAt ThePin k r.seek_record.edge.slot r.seek_record.parent r.seek_record.side k) may.ended,
  ),
)

-- ---- a look at a value

pub replace_later : (p q : PassView) (k : ℕ) (r : WalkEnd) (c : List ChainEdge) → MayReplace p k r c → GoesOn p q
    → OnlyLooks p q → MayReplace q k r c
replace_later p q k r c may on only = record {
  is_key = may.is_key;
  call = on.keeps (CallIs Insert k) may.call;
  unlinked = only.linked ∙ may.unlinked;
  unswapped = only.swapped ∙ may.unswapped;
  at = at_kept (Tells p) (Tells q) (λ fact holds. on.keeps fact holds) r.seek_record c may.at;
  few = may.few;
  ended = on.keeps (EndedAt ThePin k r.seek_record.edge.slot r.seek_record.parent r.seek_record.side k) may.ended;
}

-- the value that was just read
pub was_just_read : (m : PassView) (k leaf v : ℕ) → IsInRun m → IsKey k → EndedWith m ThePin k leaf k
    → HasSeenStores m.view
    → v ≡ value_of m.view.stores leaf → ValueWas m m k leaf v
was_just_read m k leaf v run is_key ended seen value =
    let within = leaf_is_high m run seen.run k leaf is_key ended in
    record {
      on = record {
        same = refl;
        past = seen_itself m;
        run = run;
        stores = stores_same m.view.stores m.view.stores refl;
      };
      under = under_none m.view.log m.view.log refl;
      read = record {
        slot = leaf;
        parent = ended.0;
        side = ended.1;
        walk = walk_ended m k leaf ended.0 ended.1 ended.2;
        high = within.0;
        within = within.1;
        seen = seen;
        value = value;
      };
      at = refl;
    }

-- ---- by the result

pub if_replaced : (P Q : ℕ → Type 0) → ((x : ℕ) → P x → Q x) → (a : Attempt) → IfReplaced a P → IfReplaced a Q
if_replaced P Q f (attempt.Done (put.Replaced old)) h = f old h
if_replaced P Q f (attempt.Done put.Inserted) h = tt
if_replaced P Q f (attempt.Done put.Absent) h = tt
if_replaced P Q f (attempt.Done (put.Other v)) h = tt
if_replaced P Q f attempt.Full h = tt
if_replaced P Q f attempt.Lost h = tt

pub replaced_does : (fit : Fit) (L : Layout) (when : Condition) (k v : ℕ) (r : WalkEnd) (c : List ChainEdge)
    (old new : List Entry) (p q : PassView) (a : Attempt)
    → ReplacesAt fit L k r c old new a → IfReplaced a (λ was. HasReplaced p q k was v) → IfReplaced a
    (IsExpected when) → TryDoes when k v p q a
replaced_does fit L when k v r c old new p q (attempt.Done (put.Replaced was)) part h e = (h, e)
replaced_does fit L when k v r c old new p q (attempt.Done put.Inserted) part h e = absurd part
replaced_does fit L when k v r c old new p q (attempt.Done put.Absent) part h e = absurd part
replaced_does fit L when k v r c old new p q (attempt.Done (put.Other was)) part h e = absurd part
replaced_does fit L when k v r c old new p q attempt.Full part h e = tt
replaced_does fit L when k v r c old new p q attempt.Lost part h e = tt

-- if no value is expected, any is
pub no_other : (when : Condition) → ((expected : ℕ) → when ≡ condition.IfItIs expected → ⊥) → (a : Attempt)
    → IfReplaced a (IsExpected when)
no_other when none' (attempt.Done (put.Replaced old)) = λ expected is. absurd (none' expected is)
no_other when none' (attempt.Done put.Inserted) = tt
no_other when none' (attempt.Done put.Absent) = tt
no_other when none' (attempt.Done (put.Other v)) = tt
no_other when none' attempt.Full = tt
no_other when none' attempt.Lost = tt

pub expected_is : (expected e : ℕ) → condition.IfItIs expected ≡ condition.IfItIs e → expected ≡ e
expected_is expected e is = cc

pub there_expects_none : (e : ℕ) → condition.IfThere ≡ condition.IfItIs e → ⊥
there_expects_none e is = cc

pub always_expects_none : (e : ℕ) → condition.Always ≡ condition.IfItIs e → ⊥
always_expects_none e is = cc

pub shows_since : (k : ℕ) (o p q : PassView) (a : Attempt) → HasPutNothing o p → ShowsTry k p q a → ShowsTry k o q a
shows_since k o p q (attempt.Done put.Inserted) none' h = h
shows_since k o p q (attempt.Done (put.Replaced v)) none' h = (h.0, h.1 ∙ none'.linked)
shows_since k o p q (attempt.Done (put.Other v)) none' h = (h.0, h.1 ∙ none'.linked)
shows_since k o p q (attempt.Done put.Absent) none' h = nothing_then o p q none' h
shows_since k o p q attempt.Full none' h = nothing_then o p q none' h
shows_since k o p q attempt.Lost none' h = nothing_then o p q none' h

pub does_since : (when : Condition) (k v : ℕ) (o p q : PassView) (a : Attempt) → HasSeenAllOf p o
    → TryDoes when k v p q a → TryDoes when k v o q a
does_since when k v o p q (attempt.Done put.Inserted) seen h = (h.0, put_earlier o p q k v seen h.1)
does_since when k v o p q (attempt.Done (put.Replaced was)) seen h = (replaced_since o p q k was v seen h.0, h.1)
does_since when k v o p q (attempt.Done (put.Other was)) seen h = h
does_since when k v o p q (attempt.Done put.Absent) seen h = h
does_since when k v o p q attempt.Full seen h = tt
does_since when k v o p q attempt.Lost seen h = tt

-- the private slots are as they were
pub private_since : (o p q : PassView) → ((s : ℕ) → get (knowledge p.view).drafts s ≡ get
    (knowledge o.view).drafts s) → HasNewNodes p q None → HasNewNodes o q None
private_since o p q same h s = h s ∙ same s

-- ---- the end of a walk

pub may_replace : (p q : PassView) (k : ℕ) (r : WalkEnd) (c : List ChainEdge) → IsInRun p → Tells p
    (CallIs Insert k) → (search p).linked ≡ false
    → (search p).swapped ≡ false → GoesOn p q → OnlyLooks p q → IsAt (Tells q) r.seek_record c → length c < chain_bound
    → HasFound p q k r.seek_record.edge.slot r.seek_record.parent r.seek_record.side r.key → r.key ≡ k
    → MayReplace q k r c
may_replace p q k r c run call unlinked unswapped on only at few found same = record {
  is_key = key_of_call p run Insert k call;
  call = on.keeps (CallIs Insert k) call;
  unlinked = only.linked ∙ unlinked;
  unswapped = only.swapped ∙ unswapped;
  at = at;
  few = few;
  ended = subst (λ (n : ℕ). Tells q
      (EndedAt ThePin k r.seek_record.edge.slot r.seek_record.parent r.seek_record.side n)) same (found ThePin
      (Insert, call));
}

-- a walk has ended at a leaf with another key
pub ended_other : (p q : PassView) (k : ℕ) (r : WalkEnd) → Tells p (CallIs Insert k)
    → HasFound p q k r.seek_record.edge.slot r.seek_record.parent r.seek_record.side r.key → r.key ≢ k
    → HasEndedSo q k false
ended_other p q k r call found other = (
  r.seek_record.edge.slot,
  r.seek_record.parent,
  r.key,
  r.seek_record.side,
  walk_ends (found ThePin
      (Insert, call)),
  sym (ne_eqb r.key k other),
)
  where
    log : List Entry
    log = since_pin [] q.view.log

    walk_ends : Tells q (EndedAt ThePin k r.seek_record.edge.slot r.seek_record.parent r.seek_record.side r.key)
        → WalkEnds k (since_pin [] q.view.log) r.seek_record.edge.slot r.seek_record.parent r.seek_record.side r.key
    walk_ends (a, key, ended) =
        let own : IsOfWalk a.call.key log a.arrival = subst (IsOfWalk a.call.key log) a.among.2
        (arrivals_are_walks q.view.log a.call a.is_call a.among.0 a.arrival a.among.1) in
        let ends = own.ends ended in
        subst (λ (v : ℕ). WalkEnds k log r.seek_record.edge.slot r.seek_record.parent r.seek_record.side v)
        (same_Some ends.0 r.key (sym ends.1 ∙ key))
        (subst (λ (d : Side). WalkEnds k log r.seek_record.edge.slot r.seek_record.parent d ends.0) a.is_side
        (subst (λ (x : ℕ). WalkEnds k log r.seek_record.edge.slot x a.arrival.side ends.0) a.is_parent
        (subst (λ (x : ℕ). WalkEnds k log x a.arrival.parent a.arrival.side ends.0) a.is_slot
        (subst (λ (j : ℕ). WalkEnds j log a.arrival.slot a.arrival.parent a.arrival.side ends.0) a.is_for ends.2))))

-- the walk of a put that inserts nothing
pub walks_leaf : (when : Condition) → when ≢ condition.Always → (L : Layout) (k : ℕ) (old new : List Entry)
    (c : List ChainEdge) (r : Option WalkEnd)
    → Seeks L k old new c r → WalksFor when L k old new c r
walks_leaf condition.Always other L k old new c r h = absurd (other refl)
walks_leaf condition.IfThere other L k old new c r h = h
walks_leaf (condition.IfItIs e) other L k old new c r h = h
