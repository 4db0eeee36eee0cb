-- Lost tries of a put: in each its worker was interfered, and alone it loses none.
use Rattle.std.proofs.Common.{◌≡◌, ℕ, zero, suc, ◌<◌, ◌≤◌, inl, inr, ◌⊎◌, false, List, [], ◌∷◌, ◌++◌, refl, sym, subst, ◌∙◌, arith}
use Rattle.std.specs.Prelude.{Some, None, Err}
use Rattle.std.specs.List.{list_any}
use Rattle.std.proofs.lemmas.List.{append-nil}
use Rattle.nm_edge.specs.Edges.{Edge}
use Rattle.nm_edge.specs.Layouts.{Layout}
use Rattle.nm_edge.specs.declared.placement.Fit.{Fit}
use Rattle.nm_model.specs.declared.event.Event.{Event}
use Rattle.nm_model.specs.declared.event.Event.TheVariants.{Give, Link, Look, SightFor, Swap}
use Rattle.nm_model.specs.declared.event.Field.TheVariants.{Birth}
use Rattle.nm_model.specs.declared.event.Op.TheVariants.{Insert}
use Rattle.nm_model.specs.declared.reply.Reply.TheVariants.{BirthIs, Returned}
use Rattle.nm_model.specs.Walks.{Entry}
use Rattle.nm_order.specs.Logs.{IsLogOf}
use Rattle.nm_steps.specs.Steps.{PassView, IsSamePass, HasSeenAllOf, HasSeen}
use Rattle.nm_walks.specs.declared.looking.Onward.{Onward}
use Rattle.nm_walks.specs.declared.seek_record.ChainEdge.{ChainEdge}
use Rattle.nm_walks.specs.declared.seek_record.WalkEnd.{WalkEnd}
use Rattle.nm_walks.specs.Bounds.{chain_bound}
use Rattle.nm_walks.specs.Making.{fills}
use Rattle.nm_walks.specs.Walks.{IsBroken, Reads, Walks}
use Rattle.nm_calls.specs.Inserts.{Helps}
use Rattle.nm_calls.specs.declared.fault.CallFault.TheVariants as fault
use Rattle.nm_puts.specs.declared.putting.Attempt.TheVariants as attempt
use Rattle.nm_puts.specs.declared.putting.Condition.{Condition}
use Rattle.nm_puts.specs.declared.putting.Condition.TheVariants as condition
use Rattle.nm_puts.specs.Puts.{InsertsAt, IsPutTry, LostPuts, PutDid, ReplacesAt, TriesAt, WalksFor}
use Rattle.nm_progress.specs.Alone.{IsAlone}
use Rattle.nm_progress.specs.Changes.{Expects}
use Rattle.nm_progress.specs.Changes.Expects.{ToLink, ToSwap}
use Rattle.nm_progress.specs.Lost.{ChangeWasBusy}
use Rattle.nm_progress.specs.Pending.{NonePends}
use Rattle.nm_progress.specs.Puts.{BusyPutsWereLost, PutsAloneAreDone}
use Rattle.nm_progress.specs.Tries.{losing}
use Rattle.nm_progress.proofs.AloneCalls.{Mute, none_broken, none_lost, none_moved, none_pends, pin_mute}
use Rattle.nm_progress.proofs.Interfered.{Interferes, of_longer}
use Rattle.nm_progress.proofs.InterferedCalls.{lost, moved}
use Rattle.nm_progress.proofs.InterferedTries.{broken_interferes, broken_plain, help_steady, lost_at, one_more}
use Rattle.nm_progress.proofs.MarkedReads.{IsMarked, StillMarked, lost_link_marked, lost_swap_marked}
use Rattle.nm_progress.proofs.MoreTries.{Plain, is_loud, plain_these, plain_then}
use Rattle.nm_progress.proofs.Parts.{Longer, broken_longer, claim_plain, help_longer, longer_none, longer_then, longer_these, pin_longer, plain_longer, readies_plain, reads_plain, walk_longer}
use Rattle.nm_progress.proofs.Steady.{IsFor, Steady, for_on, is_turning, pinned_for, plain_steady, steady_then, steady_these}
use Rattle.nm_progress.proofs.WalkInterference.{walk_plain}

-- ---- an exchange that was lost

-- a walk for the key came to the leaf by an edge; an exchange that expects this edge was lost there; then
-- the new nodes were given back, and there was help
record LostExchange (L : Layout) (k : ℕ) (old new : List Entry) : Type 0 where
  end : WalkEnd
  chain : List ChainEdge
  found : Edge
  steps : ℕ
  walked : List Entry
  before : List Entry
  mid : List Entry
  back : List Entry
  exchange : Event
  walk : Walks k steps old walked end.seek_record chain
  plain : Plain walked before
  quiet : is_loud (losing exchange found) ≡ false
  steady : list_any is_turning (losing exchange found ∷ []) ≡ false
  expects : Expects end.seek_record.parent end.seek_record.side end.seek_record.edge.slot exchange
  marked : (enough : 5 ≤ L.nodes) (w : ℕ) → IsLogOf L w (before ++ losing exchange found ∷ [])
      → IsMarked L enough w before end.seek_record.parent end.seek_record.side end.seek_record.edge.slot
      → StillMarked found end.seek_record.edge.slot
  is : mid ≡ before ++ losing exchange found ∷ []
  gap : Plain mid back
  helps : Helps end chain found back new

-- the walk of a put, of either kind
record WalkOf (k : ℕ) (old ended : List Entry) (c : List ChainEdge) (r : WalkEnd) : Type 0 where
  steps : ℕ
  walked : List Entry
  on : Onward
  walk : Walks k steps old walked r.seek_record c
  reads : Reads k r.seek_record.edge.slot walked ended on

walk_of : (when : Condition) (L : Layout) (k : ℕ) (old ended : List Entry) (c : List ChainEdge) (r : WalkEnd)
    → WalksFor when L k old ended c (Some r) → WalkOf k old ended c r
walk_of condition.Always L k old ended c r h =
    record { steps = h.0.0; walked = h.0.1; on = h.0.2; walk = h.0.4; reads = h.0.6 }
walk_of condition.IfThere L k old ended c r h =
    record { steps = h.0.0; walked = h.0.1; on = h.0.2; walk = h.0.4; reads = h.0.6 }
walk_of (condition.IfItIs e) L k old ended c r h =
    record { steps = h.0.0; walked = h.0.1; on = h.0.2; walk = h.0.4; reads = h.0.6 }

broken_of : (when : Condition) (L : Layout) (k : ℕ) (old ended : List Entry) (c : List ChainEdge)
    → WalksFor when L k old ended c None → IsBroken L k old ended
broken_of condition.Always L k old ended c h = h
broken_of condition.IfThere L k old ended c h = h
broken_of (condition.IfItIs e) L k old ended c h = h

module _ (fit : Fit) (L : Layout) (k : ℕ) (r : WalkEnd) (c : List ChainEdge) (old ended new : List Entry)
    (w : WalkOf k old ended c r) where
  reads : Plain w.walked ended
  reads = reads_plain k r.seek_record.edge.slot w.walked ended w.on w.reads

  swap_lost : ReplacesAt fit L k r c ended new attempt.Lost → LostExchange L k old new
  swap_lost (n, b, e, claimed, lost, back, claim, swaps, gives, helps) =
      let s = r.seek_record in
      let looked = claimed ++ (Look s.edge.slot Birth, BirthIs b) ∷ [] in
      record {
        end = r;
        chain = c;
        found = e;
        steps = w.steps;
        walked = w.walked;
        before = looked ++ fills n.slot k 0 0;
        mid = lost;
        back = back;
        exchange = Swap s.parent s.side s.edge.slot n.slot;
        walk = w.walk;
        plain = plain_then w.walked ended _ reads (plain_then ended claimed _
            (claim_plain fit L.nodes ended claimed n claim) (plain_then claimed looked _
            (plain_these ((Look s.edge.slot Birth, BirthIs b) ∷ []) claimed looked refl refl)
            (plain_these (fills n.slot k 0 0) looked _ refl refl)));
        quiet = refl;
        steady = refl;
        expects = ToSwap n.slot;
        marked = λ enough u. lost_swap_marked L enough u _ s.parent s.edge.slot n.slot s.side s.edge.slot e;
        is = swaps;
        gap = plain_these ((Give n.slot, Returned n.slot) ∷ []) lost back refl gives;
        helps = helps;
      }

  link_lost : InsertsAt fit L k r c ended new attempt.Lost → LostExchange L k old new
  link_lost (made, e, claimed, lost, back, claims, grows, returns, helps) =
      let s = r.seek_record in
      let inner = fills made.internal.slot grows.0.key grows.0.left grows.0.right in
      let leaf = fills made.leaf.slot k 0 0 in
      record {
        end = r;
        chain = c;
        found = e;
        steps = w.steps;
        walked = w.walked;
        before = (claimed ++ inner) ++ leaf;
        mid = lost;
        back = back;
        exchange = Link s.parent s.side s.edge.slot made.internal.slot;
        walk = w.walk;
        plain = plain_then w.walked ended _ reads (plain_then ended claimed _
            (readies_plain fit L.nodes None made ended claimed claims) (plain_then claimed (claimed ++ inner) _
            (plain_these inner claimed _ refl refl) (plain_these leaf (claimed ++ inner) _ refl refl)));
        quiet = refl;
        steady = refl;
        expects = ToLink made.internal.slot;
        marked = λ enough u. lost_link_marked L enough u _ s.parent s.edge.slot made.internal.slot s.side
            s.edge.slot e;
        is = grows.3;
        gap = plain_then lost _ back (plain_these ((Give made.internal.slot, Returned made.internal.slot) ∷ []) lost
            _ refl refl)
            (plain_these ((Give made.leaf.slot, Returned made.leaf.slot) ∷ []) _ back refl returns);
        helps = helps;
      }

-- a lost try: its walk was broken off, or its exchange was lost
abbrev LostPut : Layout → ℕ → List Entry → List Entry → Type 0
LostPut L k old new = IsBroken L k old new ⊎ LostExchange L k old new

lost_put : (fit : Fit) (L : Layout) (when : Condition) (k : ℕ) (old new : List Entry)
    → IsPutTry fit L when k old new attempt.Lost → LostPut L k old new
lost_put fit L when k old new (inl (same, (c, walks))) = inl (broken_of when L k old new c walks)
lost_put fit L when k old new (inr (r, c, ended, few, walks, at)) = inr (by at)
  where
    walk : WalkOf k old ended c r
    walk = walk_of when L k old ended c r walks

    by : TriesAt fit L when k r c ended new attempt.Lost → LostExchange L k old new
    by (inl (same, replaces)) = swap_lost fit L k r c old ended new walk replaces
    by (inr (inl (other, always, inserts))) = link_lost fit L k r c old ended new walk inserts
    by (inr (inr (inl (same, is, none)))) = absurd (let no = is.4 in cc)
    by (inr (inr (inr (other, when', is, none)))) = absurd (let no = is in cc)

-- ---- what lost tries add

module _ (L : Layout) (k : ℕ) where
  rest_longer : (old new : List Entry) (x : LostExchange L k old new) → Longer x.mid new
  rest_longer old new x = longer_then x.mid x.back new (plain_longer x.mid x.back x.gap)
      (help_longer x.end x.chain x.found x.back new x.helps)

  put_longer : (old new : List Entry) → LostPut L k old new → Longer old new
  put_longer old new (inl broken) = broken_longer L k old new broken
  put_longer old new (inr x) = longer_then old x.walked new
      (walk_longer k x.steps old x.walked x.end.seek_record x.chain x.walk)
      (longer_then x.walked x.before new (plain_longer x.walked x.before x.plain)
      (longer_then x.before x.mid new (longer_these _ x.before x.mid x.is) (rest_longer old new x)))

  put_steady : (enough : 5 ≤ L.nodes) (w : ℕ) (old new : List Entry) → LostPut L k old new → Steady old new
  put_steady enough w old new (inl broken) = plain_steady old new (broken_plain L k old new broken)
  put_steady enough w old new (inr x) = steady_then old x.walked new (plain_steady old x.walked
      (walk_plain k x.steps old x.walked x.end.seek_record x.chain x.walk))
      (steady_then x.walked x.before new (plain_steady x.walked x.before x.plain)
      (steady_then x.before x.mid new (steady_these (losing x.exchange x.found ∷ []) x.before x.mid x.steady x.is)
      (steady_then x.mid x.back new (plain_steady x.mid x.back x.gap)
      (help_steady L enough w x.end x.chain x.found x.back new x.helps))))

puts_steady : (fit : Fit) (L : Layout) (enough : 5 ≤ L.nodes) (w : ℕ) (when : Condition) (k n : ℕ)
    (old new : List Entry) → LostPuts fit L when k n old new → Steady old new
puts_steady fit L enough w when k zero old new h = steady_these [] old new refl (h ∙ sym (append-nil old))
puts_steady fit L enough w when k (suc n) old new h = steady_then old h.0 new
    (puts_steady fit L enough w when k n old h.0 h.1)
    (put_steady L k enough w h.0 new (lost_put fit L when k h.0 new h.2))

-- ---- each is interfered

module _ (L : Layout) (enough : 5 ≤ L.nodes) (w k : ℕ) (here : w < L.workers) (crew : L.workers ≤ chain_bound) where
  put_interferes : (old new : List Entry) → IsFor k old → LostPut L k old new → IsLogOf L w new
      → Interferes L enough w old new 1
  put_interferes old new for (inl broken) l = broken_interferes L enough w k here crew old new for broken
  put_interferes old new for (inr x) l = lost_at L enough w k x.end x.chain x.found x.steps old x.walked x.before
      x.mid x.back new x.exchange x.walk x.plain x.quiet x.expects (x.marked enough w) x.is x.gap x.helps l

  puts_interfere : (fit : Fit) (when : Condition) (n : ℕ) (old new : List Entry) → IsFor k old
      → LostPuts fit L when k n old new → IsLogOf L w new → Interferes L enough w old new n
  puts_interfere fit when zero old new for h l = of_longer L enough w old new
      (longer_these [] old new (h ∙ sym (append-nil old)))
  puts_interfere fit when (suc n) old new for (mid, before, try) l = one_more L enough w k here crew n old mid new
      (puts_interfere fit when n old mid for before) (put_interferes mid new
      (for_on k old mid (puts_steady fit L enough w when k n old mid before) for) (lost_put fit L when k mid new try)
      l) l

pub busy_puts_were_lost : BusyPutsWereLost
busy_puts_were_lost fit when k tries p q seen_p seen_q enough crew same on did = by did
  where
    by : PutDid fit p.view.layout tries when k p.view.log q.view.log (Err fault.Busy) → ChangeWasBusy p q tries
    by (inl none) = inl none.0
    by (inr (inl m)) = inr (inl (moved p q seen_p seen_q enough same on (SightFor Insert k) refl tries m.0 m.1))
    by (inr (inr (pinned, epoch, pin, (mid, tried, leaves)))) = inr
        (inr (lost p q seen_p seen_q enough same on tries pinned mid
        (pin_longer (SightFor Insert k) tries p.view.log pinned epoch pin)
        (puts_interfere p.view.layout enough p.view.number k seen_p.worker crew fit when tries pinned mid
        (pinned_for Insert k tries p.view.log pinned epoch pin) tried)
        (longer_these _ mid q.view.log leaves)))

-- ---- alone it loses none

module _ (p q : PassView) (seen_p : HasSeen p.view) (seen_q : HasSeen q.view) (enough : 5 ≤ p.view.layout.nodes)
    (same : IsSamePass p q) (alone : IsAlone p q) (rests : NonePends p.view.layout p.view.past) where
  no_try : (k : ℕ) (begun new : List Entry) → Mute p.view.log begun → LostPut p.view.layout k begun new
      → Longer new q.view.log → ⊥
  no_try k begun new pin (inl broken) rest = none_broken p q seen_p seen_q enough same alone rests k begun new pin
      broken rest
  no_try k begun new pin (inr x) rest = none_lost p q seen_p seen_q enough same alone rests k x.end x.chain x.found
      x.steps begun x.walked x.before x.exchange pin x.walk x.plain x.quiet x.expects
      (longer_then _ x.mid q.view.log (longer_none _ x.mid x.is)
      (longer_then x.mid new q.view.log (rest_longer p.view.layout k begun new x) rest))

  none_put : (fit : Fit) (when : Condition) (k n : ℕ) (begun new : List Entry) → Mute p.view.log begun
      → LostPuts fit p.view.layout when k n begun new → Longer new q.view.log → n ≡ 0
  none_put fit when k zero begun new pin tried rest = refl
  none_put fit when k (suc zero) begun new pin (mid, before, try) rest = absurd (no_try k begun new pin
      (subst (λ (l : List Entry). LostPut p.view.layout k l new) before
      (lost_put fit p.view.layout when k mid new try)) rest)
  none_put fit when k (suc (suc n)) begun new pin (mid, before, try) rest = absurd
      (let none = none_put fit when k (suc n) begun mid pin before
      (longer_then mid new q.view.log (put_longer p.view.layout k mid new
      (lost_put fit p.view.layout when k mid new try)) rest) in omega (arith, none))

pub puts_alone_are_done : PutsAloneAreDone
puts_alone_are_done fit when k tries p q seen_p seen_q enough same on runs resting did = by did
  where
    rests : NonePends p.view.layout p.view.past
    rests = none_pends p seen_p resting runs.rests

    by : PutDid fit p.view.layout tries when k p.view.log q.view.log (Err fault.Busy) → tries ≡ 0
    by (inl none) = none.0
    by (inr (inl m)) = none_moved p q tries runs.alone (moved p q seen_p seen_q enough same on (SightFor Insert k)
        refl tries m.0 m.1)
    by (inr (inr (pinned, epoch, pin, (mid, tried, leaves)))) = none_put p q seen_p seen_q enough same runs.alone
        rests fit when k tries pinned mid (pin_mute Insert k tries p.view.log pinned epoch pin) tried
        (longer_these _ mid q.view.log leaves)
