-- How handing out goes on from one held queue to the next ones.
use Rattle.std.proofs.Common.{◌≡◌, ℕ, ◌≤◌, Bool, true, ◌+◌, List, [], ◌∷◌, ◌++◌, map, length, append-nil, refl, sym, ap, ◌∙◌, arith}
use Rattle.std.specs.Prelude.{nat_lt}
use Rattle.std.proofs.lemmas.Bool.{lt-ltb, ltb-true}
use Rattle.std.proofs.lemmas.List.{length-append, length-map}
use Rattle.nm_edge.specs.Layouts.{Layout}
use Rattle.nm_model.specs.Knowledge.{Knowledge}
use Rattle.nm_model.specs.Walks.{Entry as LogEntry}
use Rattle.nm_order.specs.Hands.{AreApart}
use Rattle.nm_steps.specs.Rules.{knowledge}
use Rattle.nm_steps.specs.Steps.{Continues, IsInRun, PassView}
use Rattle.nm_steps.proofs.Seeing.{continues_then}
use Rattle.nm_epoch.specs.declared.collecting.Entry.{Entry}
use Rattle.nm_epoch.specs.declared.collecting.HeldQueue.{HeldQueue}
use Rattle.nm_epoch.specs.Collecting.{AreHeld, NoneHas, freeing, ripe_of, ripe_part}
use Rattle.nm_epoch.specs.Handing.{HandsFront, HandsFronts, HasHandedOut, HaveHandedOut}
use Rattle.nm_epoch.specs.Scans.{IsSightOf}
use Rattle.nm_model.proofs.Lists.{longer_by}
use Rattle.nm_epoch.proofs.FewFreed.{few_ripe}
use Rattle.nm_epoch.proofs.Steps.{one_longer}
use Rattle.nm_epoch.proofs.OneQueue.{frees_then}
use Rattle.nm_epoch.proofs.SeveralQueues.{held_all, others_on, entries_on}
use Rattle.nm_epoch.proofs.ReadValues.{continues_itself, read_on, read_from}

-- ---- more of what the pass has seen, before and after

handed_later : (epoch : ℕ) (p q r : PassView) (h g : HeldQueue) (es : List Entry) (vs : List ℕ) → Continues q r
    → HasHandedOut epoch p q h g es vs → HasHandedOut epoch p r h g es vs
handed_later epoch p q r h g es vs after d = record {
  parts = d.parts;
  ripe = d.ripe;
  read = read_on h.origin p q r es vs after d.read;
  origin = d.origin;
  counts = d.counts;
}

handed_earlier : (epoch : ℕ) (o p q : PassView) (h g : HeldQueue) (es : List Entry) (vs : List ℕ) → Continues o p
    → HasHandedOut epoch p q h g es vs → HasHandedOut epoch o q h g es vs
handed_earlier epoch o p q h g es vs before d = record {
  parts = d.parts;
  ripe = d.ripe;
  read = read_from h.origin o p q es vs before d.read;
  origin = d.origin;
  counts = d.counts;
}

pub all_earlier : (epoch : ℕ) (o p q : PassView) (hs gs : List HeldQueue) (es : List Entry) (vs : List ℕ)
    → Continues o p → HaveHandedOut epoch p q hs gs es vs → HaveHandedOut epoch o q hs gs es vs
all_earlier epoch o p q [] [] es vs before d = d
all_earlier epoch o p q [] (g ∷ gs) es vs before d = absurd d
all_earlier epoch o p q (h ∷ hs) [] es vs before d = absurd d
all_earlier epoch o p q (h ∷ hs) (g ∷ gs) es vs before (fs, ws, more, later, parts, values, one, rest) = (
  fs,
  ws,
  more,
  later,
  parts,
  values,
  handed_earlier epoch o p q h g fs ws before one,
  all_earlier epoch o p q hs
      gs more later before rest,
)

-- ---- no more than what was ripe

pub freed_few : (epoch : ℕ) (p q : PassView) (hs gs : List HeldQueue) (es : List Entry) (vs : List ℕ)
    → HaveHandedOut epoch p q hs gs es vs → length es ≤ length (ripe_of epoch hs)
freed_few epoch p q [] [] es vs (none', values) =
    let long : length es ≡ 0 = ap (λ (l : List Entry). length l) none' in omega (arith, long)
freed_few epoch p q [] (g ∷ gs) es vs d = absurd d
freed_few epoch p q (h ∷ hs) [] es vs d = absurd d
freed_few epoch p q (h ∷ hs) (g ∷ gs) es vs (fs, ws, more, later, parts, values, one, rest) =
    let here : length (ripe_part epoch h.queue.items)
    ≡ length (fs ++ ripe_part epoch g.queue.items) = ap (λ (l : List Entry). length l) one.ripe in
    let sum = length-append fs (ripe_part epoch g.queue.items) in
    let all : length es ≡ length (fs ++ more) = ap (λ (l : List Entry). length l) parts in
    let both = length-append fs more in
    let ripe = length-append (ripe_part epoch h.queue.items) (ripe_of epoch hs) in
    let few = freed_few epoch p q hs gs more later rest in
    omega (arith, here, sum, all, both, ripe, few)

-- ---- the first queue, and then the others

none_handed : (epoch o : ℕ) (q r : PassView) (hs gs : List HeldQueue) (es : List Entry) (vs : List ℕ)
    → HaveHandedOut epoch q r hs gs es vs → NoneHas o hs → NoneHas o gs
none_handed epoch o q r [] [] es vs d none' = tt
none_handed epoch o q r [] (g ∷ gs) es vs d none' = absurd d
none_handed epoch o q r (h ∷ hs) [] es vs d none' = absurd d
none_handed epoch o q r (h ∷ hs) (g ∷ gs) es vs (fs, ws, more, later, parts, values, one, rest) none' =
    (λ e. none'.0 (e ∙ one.origin), none_handed epoch o q r hs gs more later rest none'.1)

pub fronts_handed : (epoch : ℕ) (room full : Bool) (p q r : PassView) (h g : HeldQueue) (hs gs : List HeldQueue)
    (vs ws : List ℕ) → AreHeld (knowledge p.view) (h ∷ hs) → HandsFront epoch room p q h g vs
    → HandsFronts epoch full q r hs gs ws → (full ≡ true → room ≡ true)
    → HandsFronts epoch full p r (h ∷ hs) (g ∷ gs) (vs ++ ws)
fronts_handed epoch room full p q r h g hs gs vs ws has first rest wide = record {
  on = continues_then p q r first.on rest.on;
  freed = first.freed ++ rest.freed;
  handed = (
    first.freed,
    vs,
    rest.freed,
    ws,
    refl,
    refl,
    handed_later epoch p q r h g first.freed vs rest.on
        first.handed,
    all_earlier epoch p q r hs gs rest.freed ws first.on rest.handed,
  );
  entries = entries_on p.view.log q.view.log r.view.log first.freed rest.freed first.entries rest.entries;
  all = λ there. (first.all (wide there), rest.all there);
  blocks = (first.blocks, rest.blocks);
  queues = held_all (knowledge q.view) (knowledge r.view) h.origin g hs gs first.handed.origin first.queue has.1
      (none_handed epoch h.origin q r hs gs rest.freed ws rest.handed has.1) rest.others rest.queues;
  others = others_on (knowledge p.view) (knowledge q.view) (knowledge r.view) h hs first.others rest.others;
  only = frees_then p q r first.only rest.only;
}

pub room_before : (here last long : ℕ) → here ≤ last → nat_lt last long ≡ true → nat_lt here long ≡ true
room_before here last long less there = let below = ltb-true last long there in
    lt-ltb here long (omega (arith, less, below))

pub none_to_hand : (epoch : ℕ) (room : Bool) (p : PassView) (hs : List HeldQueue) → IsInRun p → length hs ≡ 0
    → HandsFronts epoch room p p hs hs []
none_to_hand epoch room p [] run none' = record {
  on = continues_itself p run;
  freed = [];
  handed = (refl, refl);
  entries = sym (append-nil p.view.log);
  all = λ there. tt;
  blocks = tt;
  queues = tt;
  others = λ o other. refl;
  only = record { retired = λ o. refl; epochs_are = refl; search_is = refl; nodes = refl; private = refl };
}
none_to_hand epoch room p (h ∷ hs) run none' = absurd (omega (arith, none'))

-- ---- steps

pub handing_steps : (L : Layout) (k : Knowledge) (epoch : ℕ) (p q : PassView) (hs gs : List HeldQueue)
    (es : List Entry) (vs : List ℕ) (old mid new : List LogEntry) → AreApart L k → AreHeld k hs → 1 ≤ L.nodes
    → IsSightOf epoch old mid → new ≡ mid ++ map freeing es
    → HaveHandedOut epoch p q hs gs es vs → length new ≤ length old + L.nodes
handing_steps L k epoch p q hs gs es vs old mid new apart has some sight rest d =
    let few = few_ripe L k epoch hs apart some has in
    let less = freed_few epoch p q hs gs es vs d in
    let first = one_longer old mid _ sight.2 in
    let more = longer_by mid new (map freeing es) rest in
    let freed = length-map es freeing in
    omega (arith, few, less, first, more, freed)
