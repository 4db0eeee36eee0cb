-- What was freed is what gives freed: a give takes the front of a queue that its worker holds, and
-- nothing else frees.
use Rattle.std.proofs.Common.{◌≡◌, ℕ, zero, suc, ◌-◌, ◌<◌, ◌==◌, ◌⊎◌, inl, inr, Bool, true, false, ◌||◌, cond, List, [], ◌∷◌, ◌++◌, map, length, drop, append-nil, append_assoc, refl, sym, ap, subst, ◌∙◌, arith, get_or-set_same}
use Rattle.std.specs.Prelude.{Option, Some, None, is_some, option_map, slice_get, filter, Result, Ok}
use native.Mathlib.Decide.{ℕ_discrete}
use Rattle.std.proofs.lemmas.Bool.{and_from, and_parts, eq-eqb, eqb-true, false_from_ne_true}
use Rattle.std.proofs.lemmas.Option.{none-some, same_Some}
use Rattle.std.proofs.lemmas.List.Elements.{filter-append}
use Rattle.nm_edge.specs.Layouts.{Layout}
use Rattle.nm_edge.specs.declared.node.NodeId.{NodeId}
use Rattle.nm_model.specs.declared.event.Event.{Event}
use Rattle.nm_model.specs.declared.event.Event.TheVariants.{Join}
use Rattle.nm_model.specs.declared.reply.Reply.{Reply}
use Rattle.nm_model.specs.declared.reply.Reply.TheVariants.{Labelled, Cut, Freed}
use Rattle.nm_model.specs.declared.reply.Refused.{Refused}
use Rattle.nm_model.specs.declared.ledger.Queued.{Queued}
use Rattle.nm_model.specs.declared.ledger.Ledger.{Ledger}
use Rattle.nm_model.specs.Ledgers.{held, labelled, with_freed}
use Rattle.nm_model.specs.Knowledge.{Knowledge, newcomer}
use Rattle.nm_model.specs.Learning.{learn}
use Rattle.nm_model.specs.Searches.{is_node}
use Rattle.nm_model.specs.Runs.{State, of, start, after, trace, next, outcome, answered, refused, reply_of, applied, unless_refused}
use Rattle.nm_model.specs.Laws.{OfEachState, OfEachLedgerOfATree, node_in, nodes_freed_of, freed_by, is_among, freed_among, freed_of, IsTheFrees, FreesThenQueueAreTheCuts, FreesAFront, EachFreeTakesAFront}
use Rattle.nm_model.proofs.Lists.{get_stays, get_right, any_at}
use Rattle.nm_laws.proofs.Steps.{Allowed, allowed}
use Rattle.nm_laws.proofs.Sizes.{Staffed}
use Rattle.nm_laws.proofs.Changes.{Change, changed}
use Rattle.nm_laws.proofs.Changes.Change.{Keeps, Labels, Cuts, Frees}
use Rattle.nm_laws.proofs.TreeSteps.{Lawful}
use Rattle.nm_laws.proofs.Lawful.{applied_is, JoinOrNot, join_or_not, lawful}
use Rattle.nm_laws.proofs.Lawful.JoinOrNot.{IsJoin, IsNone}
use Rattle.nm_laws.proofs.Origins.{OriginStep, cut_at, ledger_at}
use Rattle.nm_laws.proofs.Origins.OriginStep.{Unchanged, Relabelled, Extended, Shortened}
use Rattle.nm_laws.proofs.Retired.{retired_in, Balanced, retired_step, fresh_at_start, is_the_cuts, freed_then_queue}
use Rattle.nm_laws.proofs.Turns.{LawfulTurn, lawful_turn}
use Rattle.nm_laws.proofs.Once.{freed_in, OnceLaw, once_turn, IsSound, sound_start}
use Rattle.nm_laws.proofs.Outcomes.{same_reply, no_reply}

-- ---- a give takes a front

module _ (s : State) (staffed : Staffed s) (w : ℕ) (e : Event) (n : NodeId) where
  front_moved : Allowed s w e → next s (w, e) ≡ applied s w e → reply_of s w e ≡ Freed n → ((v : ℕ) → e ≡ Join v → ⊥)
      → FreesAFront s (w, e) n
  front_moved ok is_next frees alone = by (changed s w e ok alone).ledgers
    where
      k : Knowledge
      k = learn w (of s w) e (reply_of s w e)

      inside : w < length s.workers
      inside = let size = staffed.workers in let lt = ok.worker in omega arith

      knows : of (next s (w, e)) w ≡ k
      knows = ap (λ (t : State). of t w) (is_next ∙ applied_is s w e alone)
          ∙ get_or-set_same s.workers w k (newcomer s.layout w) inside

      no_label : Labelled s.memory.epoch ≡ Freed n → ⊥
      no_label x = cc

      no_cut : (ns : List NodeId) → Cut ns ≡ Freed n → ⊥
      no_cut ns x = cc

      same_node : (m : NodeId) → Freed m ≡ Freed n → m ≡ n
      same_node m x = cc

      by : Change s w e (reply_of s w e) k → FreesAFront s (w, e) n
      by (Keeps _ _ _ unfreed) = absurd (unfreed n frees)
      by (Labels _ _ r) = absurd (no_label (sym r ∙ frees))
      by (Cuts ns _ _ r _) = absurd (no_cut ns (sym r ∙ frees))
      by (Frees x q f ripe is _ r give) = record {
        origin = f.origin;
        before = f.ledger;
        after = with_freed q.node f.ledger;
        front = q;
        had = f.is_held;
        has = ap (λ (y : Knowledge). held y.ledgers f.origin) knows ∙ (ap (λ ls. held ls f.origin) is ∙ f.after);
        is_node = same_node q.node (sym r ∙ frees);
        leaves = f.queue ∙ ap (λ (es : List Queued). q ∷ drop 1 es) (sym f.queue);
        freed = ap (λ (m : NodeId). f.ledger.freed ++ m ∷ []) (same_node q.node (sym r ∙ frees));
      }

  joins_free_nothing : (v : ℕ) → e ≡ Join v → reply_of s w e ≡ Freed n → ⊥
  joins_free_nothing v is frees = no (sym (ap (reply_of s w) is) ∙ frees)
    where
      no : reply_of s w (Join v) ≡ Freed n → ⊥
      no x = cc

  pub frees_front : outcome s (w, e) ≡ Ok (Freed n) → FreesAFront s (w, e) n
  unfolding next outcome
  frees_front is = go (refused s w e) refl
    where
      go : (o : Option Refused) → refused s w e ≡ o → FreesAFront s (w, e) n
      go (Some r) why = absurd (no_reply r (Freed n) (sym (ap (λ x. answered x (reply_of s w e)) why) ∙ is))
      go None why = by (join_or_not e)
        where
          frees : reply_of s w e ≡ Freed n
          frees = same_reply (reply_of s w e) (Freed n) (sym (ap (λ x. answered x (reply_of s w e)) why) ∙ is)

          by : JoinOrNot e → FreesAFront s (w, e) n
          by (IsJoin v join) = absurd (joins_free_nothing v join frees)
          by (IsNone alone) = front_moved (allowed s w e why) (ap (λ x. unless_refused x s (applied s w e)) why)
              frees alone

pub each_free_takes_a_front : OfEachState EachFreeTakesAFront
each_free_takes_a_front L enough turns turn n is = frees_front (after (start L) turns)
    (lawful L enough turns).law.staffed turn.0 turn.1 n is

-- ---- nodes of a list

-- a node stands in a list
abbrev pub IsIn : List NodeId → NodeId → Type 0
IsIn ns n = (k : ℕ) × (slice_get ns k ≡ Some n)

node_is_itself : (n : NodeId) → is_node n n ≡ true
node_is_itself n = and_from (n.slot == n.slot) (n.birth == n.birth) (eq-eqb n.slot n.slot refl)
    (eq-eqb n.birth n.birth refl)

any_from : (ns : List NodeId) (k : ℕ) (n : NodeId) → slice_get ns k ≡ Some n → is_among ns n ≡ true
any_from [] k n at = absurd (none-some n at)
any_from (m ∷ ns) zero n at = ap (λ (b : Bool). b || is_among ns n)
    (ap (is_node n) (same_Some m n at) ∙ node_is_itself n)
any_from (m ∷ ns) (suc k) n at = by (is_node n m) (any_from ns k n at)
  where
    by : (b : Bool) → is_among ns n ≡ true → (b || is_among ns n) ≡ true
    by true later = refl
    by false later = later

pub among_in : (ns : List NodeId) (n : NodeId) → IsIn ns n → is_among ns n ≡ true
among_in ns n at = any_from ns at.0 n at.1

pub in_among : (ns : List NodeId) (n : NodeId) → is_among ns n ≡ true → IsIn ns n
in_among ns n any =
    let at = any_at (is_node n) ns any in
    let parts = and_parts (n.slot == at.1.slot) (n.birth == at.1.birth) at.3 in
    let same : at.1 ≡ n = (λ i. record {
      slot = sym (eqb-true n.slot at.1.slot parts.0) i;
      birth = sym
          (eqb-true n.birth at.1.birth parts.1) i;
    }) in
    (at.0, at.2 ∙ ap (λ (m : NodeId). Some m) same)

filter_one : (p : NodeId → Bool) (n : NodeId) (b : Bool) → p n ≡ b → filter p (n ∷ []) ≡ cond b (n ∷ []) []
filter_one p n b is = rw is refl

-- ---- one turn

-- an outcome frees a node or none
data Frees_or_not : Result Reply Refused → Type 0 where
  FreesNode : {o : Result Reply Refused} (n : NodeId) → o ≡ Ok (Freed n) → Frees_or_not o
  FreesNone : {o : Result Reply Refused} → nodes_freed_of o ≡ [] → ((n : NodeId) → o ≡ Ok (Freed n) → ⊥)
      → Frees_or_not o

frees_or_not : (o : Result Reply Refused) → Frees_or_not o
frees_or_not (Ok (Freed n)) = FreesNode n refl
frees_or_not o = FreesNone refl (λ n e. cc)

module _ (s : State) (t : ℕ × Event) (o : ℕ) (before after : Option Ledger) where
  -- an origin's ledger freed nothing, or the node at its front
  freed_or_not : OriginStep s t o before after → (freed_in after ≡ freed_in before)
      ⊎ ((l : Ledger) × (q : Queued) × (rest : List Queued) × (before ≡ Some l) × (l.queue ≡ q ∷ rest)
      × (outcome s t ≡ Ok (Freed q.node)))
  freed_or_not (Unchanged is none) = inl (ap freed_in is)
  freed_or_not (Relabelled is none) = inl (ap freed_in is ∙ go before)
    where
      go : (x : Option Ledger) → freed_in (option_map (labelled s.memory.epoch) x) ≡ freed_in x
      go None = refl
      go (Some l) = refl
  freed_or_not (Extended l ns was is mine cut r won) = inl (ap freed_in is ∙ sym (ap freed_in was))
  freed_or_not (Shortened l q rest was queue is ripe none r give) = inr (l, q, rest, was, queue, r)

-- the front of a balanced ledger was retired
front_in : (x : Option Ledger) (l : Ledger) (q : Queued) (rest : List Queued) → x ≡ Some l → Balanced x
    → l.queue ≡ q ∷ rest → IsIn (retired_in x) q.node
front_in x l q rest is b queue = rw is (
  length l.freed,
  ap (λ (ns : List NodeId). slice_get ns (length l.freed))
      (balanced ∙ ap (λ (es : List Queued). l.freed ++ map node_in es) queue)
      ∙ (get_right l.freed (q.node ∷ map node_in rest) (length l.freed) (omega arith)
      ∙ ap (slice_get (q.node ∷ map node_in rest)) zero_left),
)
  where
    balanced : l.retired ≡ l.freed ++ map node_in l.queue
    balanced = rw is at b

    zero_left : length l.freed - length l.freed ≡ 0
    zero_left = omega arith

module _ (s : State) (h : ℕ → ℕ) (law : Lawful s h) (once : OnceLaw s h) (t : ℕ × Event) (turn : LawfulTurn s h t) where
  abbrev old : ℕ → Option Ledger
  old o = ledger_at s h o

  abbrev new : ℕ → Option Ledger
  new o = ledger_at (next s t) turn.holder o

  -- what was freed of an origin grows by what the turn frees of nodes of its own
  freed_turn : (all : ℕ → List NodeId) → ((o : ℕ) (n : NodeId) → IsIn (retired_in (old o)) n → IsIn (all o) n)
      → ((o p : ℕ) (n : NodeId) → IsIn (all o) n → IsIn (all p) n → o ≡ p)
      → (o : ℕ) → freed_in (new o) ≡ freed_in (old o) ++ filter (is_among (all o)) (nodes_freed_of (outcome s t))
  freed_turn all grows apart o = go (frees_or_not (outcome s t)) (freed_or_not s t o (old o) (new o) (turn.step o))
    where
      Same : Type 0
      Same = freed_in (new o) ≡ freed_in (old o)

      Front : Type 0
      Front = (l : Ledger) × (q : Queued) × (rest : List Queued) × (old o ≡ Some l) × (l.queue ≡ q ∷ rest)
          × (outcome s t ≡ Ok (Freed q.node))

      same_freed : (m n : NodeId) → ◌≡◌ {A = Result Reply Refused} (Ok (Freed m)) (Ok (Freed n)) → m ≡ n
      same_freed m n e = cc

      go : Frees_or_not (outcome s t) → (freed_in (new o) ≡ freed_in (old o))
          ⊎ ((l : Ledger) × (q : Queued) × (rest : List Queued) × (old o ≡ Some l) × (l.queue ≡ q ∷ rest)
          × (outcome s t ≡ Ok (Freed q.node)))
          → freed_in (new o) ≡ freed_in (old o) ++ filter (is_among (all o)) (nodes_freed_of (outcome s t))
      go (FreesNone none unfreed) (inl same) = rw none (same ∙ sym (append-nil (freed_in (old o))))
      go (FreesNone none unfreed) (inr front) = absurd (unfreed front.1.node front.5)
      go (FreesNode n is) kept = rw is (elim (ℕ_discrete o f.origin)
          [ yes here ↦ at_front here | no far ↦ elsewhere far kept ])
        where
          f : FreesAFront s t n
          f = frees_front s law.staffed t.0 t.1 n is

          was : old f.origin ≡ Some f.before
          was = ap (λ (y : ℕ). held (of s y).ledgers f.origin)
              (sym (law.holders.only t.0 f.origin (ap is_some f.had))) ∙ f.had

          now : new f.origin ≡ Some f.after
          now = ap (λ (y : ℕ). held (of (next s t) y).ledgers f.origin)
              (sym (turn.law.holders.only t.0 f.origin (ap is_some f.has))) ∙ f.has

          own : IsIn (all f.origin) n
          own = grows f.origin n (subst (IsIn (retired_in (old f.origin))) f.is_node
              (front_in (old f.origin) f.before f.front f.after.queue was (once.balanced f.origin) f.leaves))

          at_front : o ≡ f.origin → freed_in (new o) ≡ freed_in (old o) ++ filter (is_among (all o)) (n ∷ [])
          at_front here = subst (λ (p : ℕ). freed_in (new p)
              ≡ freed_in (old p) ++ filter (is_among (all p)) (n ∷ [])) (sym here)
              (ap freed_in now ∙ (f.freed ∙ (ap (λ (x : Option Ledger). freed_in x ++ n ∷ []) (sym was)
              ∙ ap (λ (ns : List NodeId). freed_in (old f.origin) ++ ns)
              (sym (filter_one (is_among (all f.origin)) n true (among_in (all f.origin) n own))))))

          elsewhere : (o ≡ f.origin → ⊥) → (freed_in (new o) ≡ freed_in (old o))
              ⊎ ((l : Ledger) × (q : Queued) × (rest : List Queued) × (old o ≡ Some l) × (l.queue ≡ q ∷ rest)
              × (outcome s t ≡ Ok (Freed q.node)))
              → freed_in (new o) ≡ freed_in (old o) ++ filter (is_among (all o)) (n ∷ [])
          elsewhere far (inl same) = same ∙ (sym (append-nil (freed_in (old o)))
              ∙ ap (λ (ns : List NodeId). freed_in (old o) ++ ns)
              (sym (filter_one (is_among (all o)) n false (false_from_ne_true (is_among (all o) n)
              (λ there. far (apart o f.origin n (in_among (all o) n there) own))))))
          elsewhere far (inr front) = absurd (far (apart o f.origin n
              (subst (IsIn (all o)) (same_freed front.1.node n (sym front.5 ∙ is))
              (grows o front.1.node (front_in (old o) front.0 front.1 front.2 front.3 (once.balanced o) front.4))) own))

-- ---- over runs

pub record FreedOver (s : State) (k : IsSound s) (ts : List (ℕ × Event)) : Type 0 where
  pub last : IsSound (after s ts)
  pub grows : (o : ℕ) (n : NodeId) → IsIn (retired_in (ledger_at s k.holder o)) n
      → IsIn (retired_in (ledger_at (after s ts) last.holder o)) n
  pub freed : (o : ℕ) → freed_in (ledger_at (after s ts) last.holder o)
      ≡ freed_in (ledger_at s k.holder o) ++ freed_among (retired_in (ledger_at (after s ts) last.holder o))
      (trace s ts)

-- sound after one turn
abbrev sound_by : (s : State) (k : IsSound s) (t : ℕ × Event) → LawfulTurn s k.holder t → IsSound (next s t)
sound_by s k t turn = record { holder = turn.holder; law = turn.law; once = once_turn s k.holder k.law k.once t turn }

one_turn_more : (s : State) (k : IsSound s) (t : ℕ × Event) (turn : LawfulTurn s k.holder t) (ts : List (ℕ × Event))
    → FreedOver (next s t) (sound_by s k t turn) ts → FreedOver s k (t ∷ ts)
unfolding after trace
one_turn_more s k t turn ts rest = record {
  last = rest.last;
  grows = λ o n at. rest.grows o n (step o n at);
  freed = λ o. rest.freed o ∙ (ap (λ (ns : List NodeId). ns
      ++ filter (is_among (all o)) (freed_by (trace (next s t) ts)))
      (freed_turn s k.holder k.law k.once t turn all (λ o n at. rest.grows o n (step o n at)) apart o)
      ∙ (append_assoc (freed_in (ledger_at s k.holder o)) (filter (is_among (all o)) (nodes_freed_of (outcome s t)))
      (filter (is_among (all o)) (freed_by (trace (next s t) ts)))
      ∙ ap (λ (ns : List NodeId). freed_in (ledger_at s k.holder o) ++ ns)
      (sym (filter-append (is_among (all o)) (nodes_freed_of (outcome s t)) (freed_by (trace (next s t) ts))))));
}
  where
    step : (o : ℕ) (n : NodeId) → IsIn (retired_in (ledger_at s k.holder o)) n
        → IsIn (retired_in (ledger_at (next s t) turn.holder o)) n
    step o n at = (
      at.0,
      ap (λ (ns : List NodeId). slice_get ns at.0)
          (retired_step s t o (ledger_at s k.holder o) (ledger_at (next s t) turn.holder o) (turn.step o))
          ∙ get_stays (retired_in (ledger_at s k.holder o)) (cut_at s t o) at.0 n at.1,
    )

    all : ℕ → List NodeId
    all o = retired_in (ledger_at (after (next s t) ts) rest.last.holder o)

    apart : (o p : ℕ) (n : NodeId) → IsIn (retired_in (ledger_at (after (next s t) ts) rest.last.holder o)) n
        → IsIn (retired_in (ledger_at (after (next s t) ts) rest.last.holder p)) n → o ≡ p
    apart o p n a b = (rest.last.once.once o p a.0 b.0 n a.1 b.1).0

pub freed_over : (s : State) (k : IsSound s) (ts : List (ℕ × Event)) → FreedOver s k ts
unfolding after trace
freed_over s k [] = record {
  last = k;
  grows = λ o n at. at;
  freed = λ o. sym
      (append-nil (freed_in (ledger_at s k.holder o)));
}
freed_over s k (t ∷ ts) =
    let turn = lawful_turn s k.holder k.law k.once.born t in
    one_turn_more s k t turn ts (freed_over (next s t) (sound_by s k t turn) ts)

-- the ledger that somebody holds is the one of its holder
the_one : (s : State) (k : IsSound s) (w o : ℕ) (l : Ledger) → held (of s w).ledgers o ≡ Some l
    → ledger_at s k.holder o ≡ Some l
the_one s k w o l is = ap (λ (y : ℕ). held (of s y).ledgers o) (sym (k.law.holders.only w o (ap is_some is))) ∙ is

pub freed_grows : (s : State) → IsSound s → (ts : List (ℕ × Event)) (w v o : ℕ) (l m : Ledger)
    → held (of s w).ledgers o ≡ Some l → held (of (after s ts) v).ledgers o ≡ Some m
    → m.freed ≡ l.freed ++ freed_among m.retired (trace s ts)
freed_grows s k ts w v o l m is is' = by (freed_over s k ts)
  where
    by : FreedOver s k ts → m.freed ≡ l.freed ++ freed_among m.retired (trace s ts)
    by run =
        let here : ledger_at (after s ts) run.last.holder o ≡ Some m = the_one (after s ts) run.last v o m is' in
        sym (ap freed_in here) ∙ (run.freed o ∙ (ap (λ (x : Option Ledger). freed_in x
        ++ freed_among (retired_in (ledger_at (after s ts) run.last.holder o)) (trace s ts)) (the_one s k w o l is)
        ∙ ap (λ (x : Option Ledger). l.freed ++ freed_among (retired_in x) (trace s ts)) here))

-- at first nothing was freed
fresh_freed : (L : Layout) (o : ℕ) → freed_in (ledger_at (start L) (λ o. o) o) ≡ []
fresh_freed L o = go (ledger_at (start L) (λ o. o) o) refl
  where
    go : (x : Option Ledger) → ledger_at (start L) (λ o. o) o ≡ x → freed_in x ≡ []
    go None is = refl
    go (Some l) is = ap (λ (y : Ledger). y.freed) (fresh_at_start L o l is)

pub each_freed_is_the_frees : OfEachLedgerOfATree IsTheFrees
each_freed_is_the_frees L enough turns w o l is = by (freed_over (start L) (sound_start L enough) turns)
  where
    by : FreedOver (start L) (sound_start L enough) turns → l.freed ≡ freed_of o (trace (start L) turns)
    by run =
        let here : ledger_at (after (start L) turns) run.last.holder o
        ≡ Some l = the_one (after (start L) turns) run.last w o l is in
        sym (ap freed_in here) ∙ (run.freed o ∙ (ap (λ (ns : List NodeId). ns
        ++ freed_among (retired_in (ledger_at (after (start L) turns) run.last.holder o)) (trace (start L) turns))
        (fresh_freed L o)
        ∙ (ap (λ (x : Option Ledger). freed_among (retired_in x) (trace (start L) turns)) here
        ∙ ap (λ (ns : List NodeId). freed_among ns (trace (start L) turns)) (is_the_cuts L turns w o l is))))

pub each_queue_is_the_rest : OfEachLedgerOfATree FreesThenQueueAreTheCuts
each_queue_is_the_rest L enough turns w o l is =
    ap (λ (ns : List NodeId). ns ++ map node_in l.queue) (sym (each_freed_is_the_frees L enough turns w o l is))
    ∙ (sym (freed_then_queue L turns w o l is) ∙ is_the_cuts L turns w o l is)
