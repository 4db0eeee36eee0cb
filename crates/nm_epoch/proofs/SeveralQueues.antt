-- How collecting goes on from one held queue to those behind it.
use Rattle.std.proofs.Common.{◌≡◌, ◌≢◌, ℕ, ◌+◌, List, [], ◌∷◌, ◌++◌, map, sym, ap, ◌∙◌, arith}
use Rattle.std.specs.Prelude.{Option, option_map}
use Rattle.std.proofs.lemmas.List.{append_assoc, length-append, map-append}
use Rattle.nm_model.specs.declared.ledger.Ledger.{Ledger}
use Rattle.nm_model.specs.Knowledge.{Knowledge}
use Rattle.nm_model.specs.Ledgers.{held}
use Rattle.nm_model.specs.Walks.{Entry as LogEntry}
use Rattle.nm_steps.specs.Rules.{knowledge}
use Rattle.nm_steps.specs.Steps.{PassView}
use Rattle.nm_steps.proofs.Seeing.{continues_then}
use Rattle.nm_epoch.specs.declared.collecting.Entry.{Entry}
use Rattle.nm_epoch.specs.declared.collecting.HeldQueue.{HeldQueue}
use Rattle.nm_epoch.specs.Collecting.{IsQueueOf, AreHeld, NoneHas, HaveLost, FreesFront, FreesFronts, ripe_part, ripe_of, freeing}
use Rattle.nm_epoch.proofs.OneQueue.{frees_then}

-- the ledgers of all origins but some stay
abbrev pub StaysBut : (ℕ → Type 0) → Knowledge → Knowledge → Type 0
StaysBut Changes k l = (o : ℕ) → Changes o → held l.ledgers o ≡ held k.ledgers o

pub queue_stays : (k l : Knowledge) (o : ℕ) (es : List Entry) → held l.ledgers o ≡ held k.ledgers o
    → IsQueueOf k o es → IsQueueOf l o es
queue_stays k l o es same has = ap (λ (y : Option Ledger). option_map (λ (x : Ledger). x.queue) y) same ∙ has

-- one ledger has changed, and these queues are of others
pub held_on : (k l : Knowledge) (o : ℕ) (hs : List HeldQueue) → NoneHas o hs → StaysBut (λ j. j ≢ o) k l
    → AreHeld k hs → AreHeld l hs
held_on k l o [] none' stay has = tt
held_on k l o (h ∷ hs) none' stay has = (
  queue_stays k l h.origin h.queue.items
      (stay h.origin (λ e. none'.0 (sym e))) has.0,
  has.1,
  held_on k l o hs none'.1 stay has.2,
)

none_still : (epoch o : ℕ) (hs gs : List HeldQueue) → HaveLost epoch hs gs → NoneHas o hs → NoneHas o gs
none_still epoch o [] [] lost none' = tt
none_still epoch o [] (g ∷ gs) lost none' = absurd lost
none_still epoch o (h ∷ hs) [] lost none' = absurd lost
none_still epoch o (h ∷ hs) (g ∷ gs) lost none' =
    (λ e. none'.0 (e ∙ lost.0.origin), none_still epoch o hs gs lost.1 none'.1)

-- the first queue and then the others: all are held in the end
pub held_all : (k l : Knowledge) (o : ℕ) (g : HeldQueue) (hs gs : List HeldQueue) → g.origin ≡ o
    → IsQueueOf k g.origin g.queue.items → NoneHas o hs → NoneHas o gs → StaysBut (λ j. NoneHas j hs) k l → AreHeld l gs
    → AreHeld l (g ∷ gs)
held_all k l o g hs gs at has none' left stay rest = (
  queue_stays k l g.origin g.queue.items (ap (λ (j : ℕ). held l.ledgers j) at
      ∙ (stay o none' ∙ sym (ap (λ (j : ℕ). held k.ledgers j) at))) has,
  rw at left,
  rest,
)

pub others_on : (k l m : Knowledge) (h : HeldQueue) (hs : List HeldQueue) → StaysBut (λ j. j ≢ h.origin) k l
    → StaysBut (λ j. NoneHas j hs) l m → StaysBut (λ j. NoneHas j (h ∷ hs)) k m
others_on k l m h hs first rest o none' = rest o none'.1 ∙ first o none'.0

pub entries_on : (old mid new : List LogEntry) (es fs : List Entry) → mid ≡ old ++ map freeing es
    → new ≡ mid ++ map freeing fs → new ≡ old ++ map freeing (es ++ fs)
entries_on old mid new es fs first rest = rest ∙ (ap (λ (log : List LogEntry). log ++ map freeing fs) first
    ∙ (append_assoc old (map freeing es) (map freeing fs)
    ∙ ap (λ (log : List LogEntry). old ++ log) (sym (map-append freeing es fs))))

-- the first one and then the others
pub fronts_freed : (epoch : ℕ) (p q r : PassView) (h g : HeldQueue) (hs gs : List HeldQueue) (m n : ℕ)
    → AreHeld (knowledge p.view) (h ∷ hs) → FreesFront epoch p q h g m → FreesFronts epoch q r hs gs n
    → FreesFronts epoch p r (h ∷ hs) (g ∷ gs) (m + n)
fronts_freed epoch p q r h g hs gs m n has first rest =
    let sum = length-append (ripe_part epoch h.queue.items) (ripe_of epoch hs) in
    let one = first.freed in
    let more = rest.freed in
    record {
      on = continues_then p q r first.on rest.on;
      entries = entries_on p.view.log q.view.log r.view.log (ripe_part epoch h.queue.items) (ripe_of epoch hs)
          first.entries rest.entries;
      freed = omega (arith, sum, one, more);
      lost = (first.lost, rest.lost);
      blocks = (first.blocks, rest.blocks);
      queues = held_all (knowledge q.view) (knowledge r.view) h.origin g hs gs first.lost.origin first.queue has.1
          (none_still epoch h.origin hs gs rest.lost has.1) rest.others rest.queues;
      others = others_on (knowledge p.view) (knowledge q.view) (knowledge r.view) h hs first.others rest.others;
      only = frees_then p q r first.only rest.only;
    }
