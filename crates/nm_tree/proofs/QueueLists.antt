-- The queues that a worker holds, one of which is its own.
use Rattle.std.proofs.Common.{◌≡◌, ◌≢◌, ℕ, zero, suc, ◌<◌, ◌⊎◌, Bool, true, false, inl, inr, List, [], ◌∷◌, length, refl, sym, ap, ◌∙◌, subst, arith}
use Rattle.std.specs.Prelude.{slice_index_or, slice_set, nat_lt, if◌then◌else◌}
use Rattle.std.proofs.lemmas.Bool.Decides.{eqb_tells}
use Rattle.std.proofs.lemmas.List.Sums.{sum_by-cons}
use Rattle.nm_model.specs.Knowledge.{Knowledge}
use Rattle.nm_model.specs.Ledgers.{held}
use Rattle.nm_epoch.specs.declared.collecting.HeldQueue.{HeldQueue}
use Rattle.nm_limbo.specs.Queue.{BlockQueue}
use Rattle.nm_epoch.specs.declared.collecting.Entry.{Entry}
use Rattle.nm_epoch.specs.Collecting.{IsQueueOf, AreHeld, NoneHas, HasFewBlocks, AreTrimmed}
use Rattle.nm_epoch.proofs.SeveralQueues.{queue_stays}
use Rattle.nm_walks.specs.Bounds.{cut_bound}
use Rattle.nm_walks.specs.Rooms.{TakesRoom}
use Rattle.nm_tree.specs.Resigning.{inserted, merged}
use Rattle.nm_calls.proofs.Rooms.{takes_none}
use Rattle.nm_tree.specs.Workers.{TakeRoom, HaveFewBlocks, AreFewIn, blocks_in, HasLittleRoom, HasOrigin, AreAbove, Ascend, QueueStandsAt, KeepsOtherQueues}

-- an index at which a queue stands is one of the list, and the queue there is that one
pub stands_within : (i o : ℕ) (hs : List HeldQueue) → QueueStandsAt i o hs → i < length hs
stands_within i o [] s = absurd s
stands_within zero o (h ∷ hs) s = omega arith
stands_within (suc i) o (h ∷ hs) s = let more = stands_within i o hs s in omega arith

pub stands_there : (i o : ℕ) (hs : List HeldQueue) (h : HeldQueue) → QueueStandsAt i o hs → h ≡ slice_index_or hs i h
    → h.origin ≡ o
stands_there i o [] h s e = absurd s
stands_there zero o (g ∷ hs) h s e = ap (λ (x : HeldQueue). x.origin) e ∙ s
stands_there (suc i) o (g ∷ hs) h s e = stands_there i o hs h s e

pub held_there : (k : Knowledge) (i o : ℕ) (hs : List HeldQueue) (h : HeldQueue) → AreHeld k hs
    → QueueStandsAt i o hs → h ≡ slice_index_or hs i h → IsQueueOf k o h.queue.items
held_there k i o [] h are s e = absurd s
held_there k zero o (g ∷ hs) h are s e = let P : HeldQueue → Type 0 = λ x. IsQueueOf k o x.queue.items in
    subst P (sym e) (let Q : ℕ → Type 0 = λ n. IsQueueOf k n g.queue.items in subst Q s are.0)
held_there k (suc i) o (g ∷ hs) h are s e = held_there k i o hs h are.2 s e

pub origin_at : (i o : ℕ) (hs : List HeldQueue) → QueueStandsAt i o hs → HasOrigin o hs
origin_at i o [] s = absurd s
origin_at zero o (h ∷ hs) s = inl s
origin_at (suc i) o (h ∷ hs) s = inr (origin_at i o hs s)

-- ---- the queue at an index is another one of the same origin

pub stands_after : (i o j : ℕ) (hs : List HeldQueue) (g : HeldQueue) → QueueStandsAt i o hs → g.origin ≡ o
    → QueueStandsAt i o (slice_set hs i g)
stands_after i o j [] g s e = absurd s
stands_after zero o j (h ∷ hs) g s e = e
stands_after (suc i) o j (h ∷ hs) g s e = stands_after i o j hs g s e

pub none_after : (x i o : ℕ) (hs : List HeldQueue) (g : HeldQueue) → QueueStandsAt i o hs → g.origin ≡ o
    → NoneHas x hs → NoneHas x (slice_set hs i g)
none_after x i o [] g s e none = absurd s
none_after x zero o (h ∷ hs) g s e none = ((λ is. none.0 (is ∙ e ∙ sym s)), none.1)
none_after x (suc i) o (h ∷ hs) g s e none = (none.0, none_after x i o hs g s e none.1)

pub has_after : (x i o : ℕ) (hs : List HeldQueue) (g : HeldQueue) → QueueStandsAt i o hs → g.origin ≡ o
    → HasOrigin x hs → HasOrigin x (slice_set hs i g)
has_after x i o [] g s e has = absurd s
has_after x zero o (h ∷ hs) g s e (inl is) = inl (e ∙ sym s ∙ is)
has_after x zero o (h ∷ hs) g s e (inr has) = inr has
has_after x (suc i) o (h ∷ hs) g s e (inl is) = inl is
has_after x (suc i) o (h ∷ hs) g s e (inr has) = inr (has_after x i o hs g s e has)

pub had_before : (x i o : ℕ) (hs : List HeldQueue) (g : HeldQueue) → QueueStandsAt i o hs → g.origin ≡ o
    → HasOrigin x (slice_set hs i g) → HasOrigin x hs
had_before x i o [] g s e has = absurd s
had_before x zero o (h ∷ hs) g s e (inl is) = inl (s ∙ sym e ∙ is)
had_before x zero o (h ∷ hs) g s e (inr has) = inr has
had_before x (suc i) o (h ∷ hs) g s e (inl is) = inl is
had_before x (suc i) o (h ∷ hs) g s e (inr has) = inr (had_before x i o hs g s e has)

pub above_after : (x i o : ℕ) (hs : List HeldQueue) (g : HeldQueue) → QueueStandsAt i o hs → g.origin ≡ o
    → AreAbove x hs → AreAbove x (slice_set hs i g)
above_after x i o [] g s e above = absurd s
above_after x zero o (h ∷ hs) g s e above = let P : ℕ → Type 0 = λ n. (x < n) × AreAbove n hs in
    subst P (s ∙ sym e) above
above_after x (suc i) o (h ∷ hs) g s e above = (above.0, above_after h.origin i o hs g s e above.1)

pub ascend_after : (i o : ℕ) (hs : List HeldQueue) (g : HeldQueue) → QueueStandsAt i o hs → g.origin ≡ o → Ascend hs
    → Ascend (slice_set hs i g)
ascend_after i o [] g s e up = absurd s
ascend_after zero o (h ∷ hs) g s e up = let P : ℕ → Type 0 = λ n. AreAbove n hs in subst P (s ∙ sym e) up
ascend_after (suc i) o (h ∷ hs) g s e up = above_after h.origin i o hs g s e up

pub others_stay : (o : ℕ) (hs : List HeldQueue) → KeepsOtherQueues o hs hs
others_stay o [] = tt
others_stay o (h ∷ hs) = (refl, inr refl, others_stay o hs)

pub others_after : (i o : ℕ) (hs : List HeldQueue) (g : HeldQueue) → QueueStandsAt i o hs → g.origin ≡ o
    → KeepsOtherQueues o hs (slice_set hs i g)
others_after i o [] g s e = absurd s
others_after zero o (h ∷ hs) g s e = (e ∙ sym s, inl s, others_stay o hs)
others_after (suc i) o (h ∷ hs) g s e = (refl, inr refl, others_after i o hs g s e)

-- queues none of which is of origin o are held still where the other ledgers stay
pub held_but : (k l : Knowledge) (o : ℕ) (hs : List HeldQueue)
    → ((x : ℕ) → x ≢ o → held l.ledgers x ≡ held k.ledgers x) → NoneHas o hs → AreHeld k hs → AreHeld l hs
held_but k l o [] same none are = tt
held_but k l o (h ∷ hs) same none are = (
  queue_stays k l h.origin h.queue.items (same h.origin (λ is. none.0 (sym is))) are.0,
  are.1,
  held_but k l o hs
      same none.1 are.2,
)

-- an origin that stands somewhere is one that they have
pub not_none : (o i : ℕ) (hs : List HeldQueue) → QueueStandsAt i o hs → NoneHas o hs → ⊥
not_none o i [] s none = absurd s
not_none o zero (h ∷ hs) s none = none.0 (sym s)
not_none o (suc i) (h ∷ hs) s none = not_none o i hs s none.1

-- an origin is among these, or none of them has it, and not both
pub has_or_none : (o : ℕ) (hs : List HeldQueue) → HasOrigin o hs ⊎ NoneHas o hs
has_or_none o [] = inr tt
has_or_none o (h ∷ hs) = elim (eqb_tells h.origin o) [
  | inl is ↦ inl (inl is.1)
  | inr is ↦ elim (has_or_none o hs) [
    | inl has ↦ inl (inr has)
    | inr none' ↦ inr ((λ e. is.1 (sym e)), none')
  ]
]

pub not_both : (o : ℕ) (hs : List HeldQueue) → HasOrigin o hs → NoneHas o hs → ⊥
not_both o [] has none' = absurd has
not_both o (h ∷ hs) (inl is) none' = none'.0 (sym is)
not_both o (h ∷ hs) (inr has) none' = not_both o hs has none'.1

-- so all are held, where the one at an index is that of the own ledger
pub held_after : (k l : Knowledge) (i o : ℕ) (hs : List HeldQueue) (g : HeldQueue)
    → ((x : ℕ) → x ≢ o → held l.ledgers x ≡ held k.ledgers x)
    → QueueStandsAt i o hs → g.origin ≡ o → IsQueueOf l o g.queue.items → AreHeld k hs → AreHeld l (slice_set hs i g)
held_after k l i o [] g same s e is are = absurd s
held_after k l zero o (h ∷ hs) g same s e is are =
    let own : NoneHas o hs = let P : ℕ → Type 0 = λ n. NoneHas n hs in subst P s are.1 in (
      (let Q : ℕ → Type 0 = λ n. IsQueueOf l n g.queue.items in subst Q (sym e) is),
      (let P : ℕ → Type 0 = λ n. NoneHas n hs in subst P (s ∙ sym e) are.1),
      held_but k l o hs same own are.2,
    )
held_after k l (suc i) o (h ∷ hs) g same s e is are =
    let apart : h.origin ≢ o = λ is_o. not_none o i hs s
    (let P : ℕ → Type 0 = λ n. NoneHas n hs in subst P is_o are.1) in (
      queue_stays k l h.origin h.queue.items (same h.origin apart) are.0,
      none_after h.origin i o hs g s e are.1,
      held_after k l i o hs g same s e is are.2,
    )

-- a queue with less room than a try asks is put at the own place
pub lacks_after : (home n o : ℕ) (hs : List HeldQueue) (g : HeldQueue) → QueueStandsAt home n hs → g.origin ≡ o
    → g.queue.spare < cut_bound → HasLittleRoom o (slice_set hs home g)
lacks_after home n o [] g stands at less = absurd stands
lacks_after zero n o (h ∷ hs) g stands at less = inl (at, less)
lacks_after (suc home) n o (h ∷ hs) g stands at less = inr (lacks_after home n o hs g stands at less)

-- a call takes room for the queue at the own place alone
pub room_stays : (hs : List HeldQueue) → TakeRoom hs hs
room_stays [] = tt
room_stays (h ∷ hs) = (takes_none h.queue, room_stays hs)

pub room_after : (i o : ℕ) (hs : List HeldQueue) (h g : HeldQueue) → QueueStandsAt i o hs → h ≡ slice_index_or hs i h
    → TakesRoom h.queue g.queue → TakeRoom hs (slice_set hs i g)
room_after i o [] h g s e takes = absurd s
room_after zero o (x ∷ hs) h g s e takes = let P : HeldQueue → Type 0 = λ y. TakesRoom y.queue g.queue in
    (subst P e takes, room_stays hs)
room_after (suc i) o (x ∷ hs) h g s e takes = (takes_none x.queue, room_after i o hs h g s e takes)

-- ---- few blocks

-- what a call takes leaves few
takes_few : (q r : BlockQueue Entry) → TakesRoom q r → HasFewBlocks q → HasFewBlocks r
takes_few q r (inl fills) few =
    let blocks = fills.blocks in
    let places = fills.places in
    let less = fills.spare in
    let spare = few.spare in
    let all = few.blocks in
    record { spare = omega (arith, less, spare); blocks = omega (arith, blocks, places, all) }
takes_few q r (inr just) few =
    let spare = just.spare in
    record { spare = omega (arith, spare); blocks = just.blocks }

pub few_after : (i o : ℕ) (hs : List HeldQueue) (h g : HeldQueue) → QueueStandsAt i o hs → h ≡ slice_index_or hs i h
    → TakesRoom h.queue g.queue → HaveFewBlocks hs → HaveFewBlocks (slice_set hs i g)
few_after i o [] h g s e takes few = absurd s
few_after zero o (x ∷ hs) h g s e takes few = let P : HeldQueue → Type 0 = λ y. HasFewBlocks y.queue in
    (takes_few h.queue g.queue takes (subst P (sym e) few.0), few.1)
few_after (suc i) o (x ∷ hs) h g s e takes few = (few.0, few_after i o hs h g s e takes few.1)

pub few_trimmed : (hs gs : List HeldQueue) → AreTrimmed hs gs → HaveFewBlocks gs
few_trimmed [] [] are = tt
few_trimmed [] (g ∷ gs) are = absurd are
few_trimmed (h ∷ hs) [] are = absurd are
few_trimmed (h ∷ hs) (g ∷ gs) are = (are.0.few, few_trimmed hs gs are.1)

few_inserted : (g : HeldQueue) (hs : List HeldQueue) → HasFewBlocks g.queue → HaveFewBlocks hs
    → HaveFewBlocks (inserted g hs)
few_inserted g [] one few = (one, tt)
few_inserted g (h ∷ hs) one few = by (nat_lt h.origin g.origin) (few_inserted g hs one few.1)
  where
    by : (b : Bool) → HaveFewBlocks (inserted g hs) → HaveFewBlocks (if b then h ∷ inserted g hs else g ∷ h ∷ hs)
    by true behind = (few.0, behind)
    by false behind = (one, few)

pub few_merged : (hs gs : List HeldQueue) → HaveFewBlocks hs → HaveFewBlocks gs → HaveFewBlocks (merged hs gs)
few_merged hs [] few more = few
few_merged hs (g ∷ gs) few more = few_inserted g (merged hs gs) more.0 (few_merged hs gs few more.1)

-- and they are few together
pub few_in_all : (hs : List HeldQueue) → HaveFewBlocks hs → AreFewIn (blocks_in hs) hs
few_in_all [] few = omega arith
few_in_all (h ∷ hs) few =
    let rest = few_in_all hs few.1 in
    let spare = few.0.spare in
    let blocks = few.0.blocks in
    let all = sum_by-cons (λ (x : HeldQueue). x.queue.blocks) h hs in
    let waits = sum_by-cons (λ (x : HeldQueue). length x.queue.items) h hs in
    let one : length (h ∷ hs) ≡ suc (length hs) = refl in
    omega (arith, rest, spare, blocks, all, waits, one)
