-- No node is cut twice: what was cut has a birth below its slot's, until the slot is free again.
use Rattle.std.proofs.Common.{◌≡◌, ℕ, ◌-◌, ◌<◌, ◌≤◌, ◌⊎◌, inl, inr, true, List, [], ◌∷◌, ◌++◌, length, map, refl, sym, ap, ◌∙◌, arith, true≢false, length-append}
use Rattle.std.specs.Prelude.{Option, Some, None, option_map, slice_get, is_some, Result, Ok}
use Rattle.std.proofs.lemmas.Bool.{cases_lt, cases_order}
use Rattle.std.proofs.lemmas.Option.{none-some, same_Some, slice_get-map}
use Rattle.nm_edge.specs.Layouts.{Layout}
use Rattle.nm_edge.specs.declared.node.NodeId.{NodeId}
use Rattle.nm_model.specs.declared.event.Event.{Event}
use Rattle.nm_model.specs.declared.event.Event.TheVariants.{Give}
use Rattle.nm_model.specs.declared.reply.Reply.{Reply}
use Rattle.nm_model.specs.declared.reply.Reply.TheVariants.{Cut, Freed}
use Rattle.nm_model.specs.declared.reply.Refused.{Refused}
use Rattle.nm_model.specs.declared.ledger.Queued.{Queued}
use Rattle.nm_model.specs.declared.ledger.Ledger.{Ledger}
use Rattle.nm_model.specs.Maps.{get}
use Rattle.nm_model.specs.Ledgers.{held, queue_of, labelled}
use Rattle.nm_model.specs.Runs.{State, of, start, after, next, outcome}
use Rattle.nm_model.specs.Places.{slot_of}
use Rattle.nm_model.specs.Memory.{node}
use Rattle.nm_model.specs.Paths.{Reached}
use Rattle.nm_model.specs.Laws.{OfEachState, node_in, NoNodeTwice}
use Rattle.nm_model.proofs.Lists.{get_left, get_right}
use Rattle.nm_laws.proofs.Changes.{IsWon}
use Rattle.nm_laws.proofs.Pins.{all_new}
use Rattle.nm_laws.proofs.Pictures.{IsLive, IsOnPath, reached_live, path_not_queued}
use Rattle.nm_laws.proofs.Views.{picture, queued_at}
use Rattle.nm_laws.proofs.TreeSteps.{Lawful}
use Rattle.nm_laws.proofs.Lawful.{opening_lawful}
use Rattle.nm_laws.proofs.Origins.{OriginStep, ledger_at}
use Rattle.nm_laws.proofs.Origins.OriginStep.{Unchanged, Relabelled, Extended, Shortened}
use Rattle.nm_laws.proofs.Retired.{retired_in, Balanced, fresh_at_start, balanced_step}
use Rattle.nm_laws.proofs.Births.{word, Unborn, BornFirst}
use Rattle.nm_laws.proofs.Turns.{IsIdle, LawfulTurn, lawful_turn}
use Rattle.nm_laws.proofs.CutNodes.{cut_nodes_of}

-- ---- the law

abbrev pub freed_in : Option Ledger → List NodeId
freed_in None = []
freed_in (Some l) = l.freed

pub record OnceLaw (s : State) (h : ℕ → ℕ) : Type 0 where
  pub balanced : (o : ℕ) → Balanced (ledger_at s h o)
  pub born : (w : ℕ) → BornFirst (of s w)
  pub bound : (o k : ℕ) (n : NodeId) → slice_get (retired_in (ledger_at s h o)) k ≡ Some n
      → n.birth ≤ word s.memory n.slot
  -- a retired node whose birth is its slot's is idle, or waits
  pub spent : (o k : ℕ) (n : NodeId) → slice_get (retired_in (ledger_at s h o)) k ≡ Some n
      → (n.birth < word s.memory n.slot) ⊎ (IsIdle s n.slot ⊎ (length (freed_in (ledger_at s h o)) ≤ k))
  pub once : (o p k j : ℕ) (n : NodeId) → slice_get (retired_in (ledger_at s h o)) k ≡ Some n
      → slice_get (retired_in (ledger_at s h p)) j ≡ Some n → (o ≡ p) × (k ≡ j)

-- ---- one entry after a turn: it was there, or it was cut by the turn

pub data Entry (s : State) (t : ℕ × Event) (o k : ℕ) (n : NodeId) (before after : Option Ledger) : Type 0 where
  Old : slice_get (retired_in before) k ≡ Some n → (length (freed_in before) ≤ k
      → (length (freed_in after) ≤ k) ⊎ ((t.1 ≡ Give n.slot) × (outcome s t ≡ Ok (Freed n))))
      → Entry s t o k n before after
  New : (l : Ledger) (ns : List NodeId) → before ≡ Some l → o ≡ t.0 → IsWon s t.0 t.1 ns → outcome s t ≡ Ok (Cut ns)
      → length l.retired ≤ k → slice_get ns (k - length l.retired) ≡ Some n → length (freed_in after) ≤ k
      → Entry s t o k n before after

freed_first : (l : Ledger) → l.retired ≡ l.freed ++ map node_in l.queue → length l.freed ≤ length l.retired
freed_first l b = let e = ap (λ (ns : List NodeId). length ns) b ∙ length-append l.freed (map node_in l.queue) in
    omega arith

entry : (s : State) (t : ℕ × Event) (o k : ℕ) (n : NodeId) (before after : Option Ledger) → Balanced before
    → OriginStep s t o before after → slice_get (retired_in after) k ≡ Some n → Entry s t o k n before after
entry s t o k n before after b (Unchanged is none) at = Old (sym (ap (λ x. slice_get (retired_in x) k) is) ∙ at)
    (λ le. inl (rw is le))
entry s t o k n before after b (Relabelled is none) at = go before
    (ap (λ x. slice_get (retired_in x) k) (sym is) ∙ at) is
  where
    go : (x : Option Ledger) → slice_get (retired_in (option_map (labelled s.memory.epoch) x)) k ≡ Some n
        → after ≡ option_map (labelled s.memory.epoch) x → Entry s t o k n x after
    go None at is = absurd (none-some n at)
    go (Some l) at is = Old at (λ le. inl (rw is le))
entry s t o k n before after b (Extended l ns was is mine cut r won) at = elim (cases_lt k (length l.retired)) [
  | inl lt ↦ Old (rw was (get_left l.retired ns k n lt (sym (ap (λ x. slice_get (retired_in x) k) is) ∙ at)))
      (λ le. inl (rw is (rw was at le)))
  | inr ge ↦ New l ns was mine won r ge (sym (get_right l.retired ns k ge)
      ∙ (sym (ap (λ x. slice_get (retired_in x) k) is) ∙ at))
      (rw is (let f = freed_first l (rw was at b) in omega arith))
]
entry s t o k n before after b (Shortened l q rest was queue is ripe none r give) at = Old (rw was old)
    (λ le. later (rw was at le))
  where
    old : slice_get l.retired k ≡ Some n
    old = sym (ap (λ x. slice_get (retired_in x) k) is) ∙ at

    balance : l.retired ≡ l.freed ++ (q.node ∷ map node_in rest)
    balance = rw was at b ∙ ap (λ (es : List Queued). l.freed ++ map node_in es) queue

    later : length l.freed ≤ k → (length (freed_in after) ≤ k) ⊎ ((t.1 ≡ Give n.slot) × (outcome s t ≡ Ok (Freed n)))
    later le = elim (cases_order k (length l.freed)) [
      | inl here ↦
          let front : slice_get (q.node ∷ map node_in rest) (k - length l.freed)
          ≡ Some n = sym (get_right l.freed (q.node ∷ map node_in rest) k le)
          ∙ (ap (λ (ns : List NodeId). slice_get ns k) (sym balance) ∙ old) in
          let zero' : k - length l.freed ≡ 0 = omega arith in
          let same : q.node ≡ n = same_Some q.node n (ap (slice_get (q.node ∷ map node_in rest)) (sym zero') ∙ front) in
          inr (give ∙ ap (λ (y : NodeId). Give y.slot) same, r ∙ ap (λ (y : NodeId). Ok (Freed y)) same)
      | inr more ↦ elim more [
        | inl below ↦ absurd (omega arith)
        | inr above ↦ inl
            (rw is (let e = length-append l.freed (q.node ∷ []) in omega arith))
      ]
    ]

-- ---- a turn

module _ (s : State) (h : ℕ → ℕ) (law : Lawful s h) (once : OnceLaw s h) where
  -- a retired node with its slot's birth is not reached
  pub not_reached : (o k : ℕ) (n : NodeId) → slice_get (retired_in (ledger_at s h o)) k ≡ Some n
      → n.birth ≡ word s.memory n.slot → IsOnPath (picture s h) n.slot → ⊥
  not_reached o k n at birth on = go (once.spent o k n at)
    where
      live : IsLive (picture s h) n.slot
      live = rw (← on.ends) (reached_live s.layout.nodes (picture s h) law.tree on.path (rw on.ends on.is_slot))

      waits : (x : Option Ledger) → ledger_at s h o ≡ x → Balanced x → slice_get (retired_in x) k ≡ Some n
          → length (freed_in x) ≤ k → queued_at (queue_of x) (k - length (freed_in x)) ≡ Some n.slot
      waits None is b at le = absurd (none-some n at)
      waits (Some l) is b at le =
          let front : slice_get (map node_in l.queue) (k - length l.freed)
          ≡ Some n = sym (get_right l.freed (map node_in l.queue) k le)
          ∙ (ap (λ (ns : List NodeId). slice_get ns k) (sym b) ∙ at) in
          slot_at l.queue (k - length l.freed) (sym (slice_get-map node_in l.queue (k - length l.freed)) ∙ front)
        where
          slot_at : (q : List Queued) (i : ℕ) → option_map node_in (slice_get q i) ≡ Some n
              → queued_at q i ≡ Some n.slot
          slot_at q i e = by (slice_get q i) e
            where
              by : (x : Option Queued) → option_map node_in x ≡ Some n → option_map slot_of x ≡ Some n.slot
              by None e = absurd (none-some n e)
              by (Some y) e = ap (λ (z : NodeId). Some z.slot) (same_Some y.node n e)

      private' : (u : (w : ℕ) × Unborn (of s w) n.slot) → is_some (get (of s u.0).drafts n.slot) ≡ true
      private' u = ap is_some u.1.is

      go : (n.birth < word s.memory n.slot) ⊎ (IsIdle s n.slot ⊎ (length (freed_in (ledger_at s h o)) ≤ k)) → ⊥
      go (inl less) = omega arith
      go (inr (inl (inl pool))) = true≢false (sym pool ∙ live.pooled)
      go (inr (inl (inr u))) = true≢false (sym (private' u) ∙ live.shared u.0)
      go (inr (inr le)) = path_not_queued s.layout.nodes (picture s h) law.tree on.path o
          (k - length (freed_in (ledger_at s h o))) (rw on.ends on.is_slot)
          (waits (ledger_at s h o) refl (once.balanced o) at le ∙ ap Some (sym on.ends))

  pub once_turn : (t : ℕ × Event) (turn : LawfulTurn s h t) → OnceLaw (next s t) turn.holder
  once_turn t turn = record {
    balanced = λ o. balanced_step s t o (ledger_at s h o) (ledger_at (next s t) turn.holder o) (turn.step o)
        (once.balanced o);
    born = turn.aging.born;
    bound = λ o k n at. bound o k n (entry_of o k n at);
    spent = λ o k n at. spent o k n (entry_of o k n at);
    once = λ o p k j n at as'. both o p k j n (entry_of o k n at) (entry_of p j n as');
  }
    where
      entry_of : (o k : ℕ) (n : NodeId) → slice_get (retired_in (ledger_at (next s t) turn.holder o)) k ≡ Some n
          → Entry s t o k n (ledger_at s h o) (ledger_at (next s t) turn.holder o)
      entry_of o k n at = entry s t o k n (ledger_at s h o) (ledger_at (next s t) turn.holder o) (once.balanced o)
          (turn.step o) at

      bound : (o k : ℕ) (n : NodeId) → Entry s t o k n (ledger_at s h o) (ledger_at (next s t) turn.holder o)
          → n.birth ≤ word (next s t).memory n.slot
      bound o k n (Old at _) = let b = once.bound o k n at in let more = turn.aging.words n.slot in omega arith
      bound o k n (New l ns was mine won r ge at le) =
          let b = (cut_nodes_of s h law t ns won r).births (k - length l.retired) n at in
          let more = turn.aging.words n.slot in omega arith

      spent : (o k : ℕ) (n : NodeId) → Entry s t o k n (ledger_at s h o) (ledger_at (next s t) turn.holder o)
          → (n.birth < word (next s t).memory n.slot) ⊎ (IsIdle (next s t) n.slot
          ⊎ (length (freed_in (ledger_at (next s t) turn.holder o)) ≤ k))
      spent o k n (New l ns was mine won r ge at le) = inr (inr le)
      spent o k n (Old at waits) = go (once.spent o k n at)
        where
          idle : IsIdle (next s t) n.slot ⊎ (word s.memory n.slot < word (next s t).memory n.slot)
              → (n.birth < word (next s t).memory n.slot) ⊎ (IsIdle (next s t) n.slot
              ⊎ (length (freed_in (ledger_at (next s t) turn.holder o)) ≤ k))
          idle (inl i) = inr (inl i)
          idle (inr more) = let b = once.bound o k n at in inl (omega arith)

          given : (length (freed_in (ledger_at (next s t) turn.holder o)) ≤ k)
              ⊎ ((t.1 ≡ Give n.slot) × (outcome s t ≡ Ok (Freed n)))
              → (n.birth < word (next s t).memory n.slot) ⊎ (IsIdle (next s t) n.slot
              ⊎ (length (freed_in (ledger_at (next s t) turn.holder o)) ≤ k))
          given (inl le) = inr (inr le)
          given (inr g) = inr (inl (inl (turn.given n.slot (Freed n) g.0 g.1)))

          go : (n.birth < word s.memory n.slot) ⊎ (IsIdle s n.slot ⊎ (length (freed_in (ledger_at s h o)) ≤ k))
              → (n.birth < word (next s t).memory n.slot) ⊎ (IsIdle (next s t) n.slot
              ⊎ (length (freed_in (ledger_at (next s t) turn.holder o)) ≤ k))
          go (inl less) = let more = turn.aging.words n.slot in inl (omega arith)
          go (inr (inl i)) = idle (turn.aging.idle n.slot i)
          go (inr (inr le)) = given (waits le)

      clash : (o k : ℕ) (n : NodeId) (ns : List NodeId) (i : ℕ) → slice_get (retired_in (ledger_at s h o)) k ≡ Some n
          → IsWon s t.0 t.1 ns → outcome s t ≡ Ok (Cut ns) → slice_get ns i ≡ Some n → ⊥
      clash o k n ns i at won r cut = let c = cut_nodes_of s h law t ns won r in
          not_reached o k n at (c.births i n cut) (c.reached i n cut)

      same_cut : (ns ms : List NodeId) → ◌≡◌ {A = Result Reply Refused} (Ok (Cut ns)) (Ok (Cut ms)) → ns ≡ ms
      same_cut ns ms e = cc

      both : (o p k j : ℕ) (n : NodeId) → Entry s t o k n (ledger_at s h o) (ledger_at (next s t) turn.holder o)
          → Entry s t p j n (ledger_at s h p) (ledger_at (next s t) turn.holder p) → (o ≡ p) × (k ≡ j)
      both o p k j n (Old at _) (Old as' _) = once.once o p k j n at as'
      both o p k j n (Old at _) (New l ns was mine won r ge cut le) = absurd
          (clash o k n ns (j - length l.retired) at won r cut)
      both o p k j n (New l ns was mine won r ge cut le) (Old at _) = absurd
          (clash p j n ns (k - length l.retired) at won r cut)
      both o p k j n (New l ns was mine won r ge cut le) (New m ms was' mine' won' r' ge' cut' le') =
          let same : o ≡ p = mine ∙ sym mine' in
          let ledger : l ≡ m = same_Some l m (sym was ∙ (ap (λ (y : ℕ). ledger_at s h y) same ∙ was')) in
          let nodes : ns ≡ ms = same_cut ns ms (sym r ∙ r') in
          let longs : length l.retired ≡ length m.retired = ap (λ (y : Ledger). length y.retired) ledger in
          let index : k - length l.retired ≡ j - length m.retired = (cut_nodes_of s h law t ns won r).once
          (k - length l.retired) (j - length m.retired) n cut
          (ap (λ (xs : List NodeId). slice_get xs (j - length m.retired)) nodes ∙ cut') in
          (same, omega arith)

-- ---- runs

-- lawful, and no node was cut twice
pub record IsSound (s : State) : Type 0 where
  pub holder : ℕ → ℕ
  pub law : Lawful s holder
  pub once : OnceLaw s holder

pub sound_next : (s : State) → IsSound s → (t : ℕ × Event) → IsSound (next s t)
sound_next s sound t =
    let turn = lawful_turn s sound.holder sound.law sound.once.born t in
    record { holder = turn.holder; law = turn.law; once = once_turn s sound.holder sound.law sound.once t turn }

pub sound_after : (s : State) → IsSound s → (ts : List (ℕ × Event)) → IsSound (after s ts)
unfolding after
sound_after s sound [] = sound
sound_after s sound (t ∷ ts) = sound_after (next s t) (sound_next s sound t) ts

-- what is kept by each turn from sound states is kept by runs
pub sound_over : (P : State → (ℕ → ℕ) → Type 0)
    → ((s : State) (h : ℕ → ℕ) → Lawful s h → OnceLaw s h → (t : ℕ × Event) (turn : LawfulTurn s h t) → P s h
    → P (next s t) turn.holder)
    → (s : State) (k : IsSound s) (ts : List (ℕ × Event)) → P s k.holder
    → (last : IsSound (after s ts)) × P (after s ts) last.holder
unfolding after
sound_over P keeps s k [] p = (k, p)
sound_over P keeps s k (t ∷ ts) p =
    let turn = lawful_turn s k.holder k.law k.once.born t in
    let now : IsSound (next s t) = record {
      holder = turn.holder;
      law = turn.law;
      once = once_turn s k.holder k.law
          k.once t turn;
    } in
    sound_over P keeps (next s t) now ts (keeps s k.holder k.law k.once t turn p)

pub once_start : (L : Layout) → OnceLaw (start L) (λ o. o)
once_start L = record {
  balanced = λ o. (at_first o).0;
  born = λ w. rw (all_new L w) (λ x d h. absurd (none-some d h));
  bound = λ o k n at. absurd (nothing o k n at);
  spent = λ o k n at. absurd (nothing o k n at);
  once = λ o p k j n at _. absurd (nothing o k n at);
}
  where
    at_first : (o : ℕ) → Balanced (ledger_at (start L) (λ o. o) o) × (retired_in (ledger_at (start L) (λ o. o) o) ≡ [])
    at_first o = go (ledger_at (start L) (λ o. o) o) refl
      where
        go : (x : Option Ledger) → ledger_at (start L) (λ o. o) o ≡ x → Balanced x × (retired_in x ≡ [])
        go None is = (tt, refl)
        go (Some l) is = let e = fresh_at_start L o l is in rw e (refl, refl)

    nothing : (o k : ℕ) (n : NodeId) → slice_get (retired_in (ledger_at (start L) (λ o. o) o)) k ≡ Some n → ⊥
    nothing o k n at = none-some n (sym (ap (λ ns. slice_get ns k) (at_first o).1) ∙ at)

abbrev pub sound_start : (L : Layout) → 5 ≤ L.nodes → IsSound (start L)
sound_start L enough = record { holder = λ o. o; law = opening_lawful L enough; once = once_start L }

pub sound : (L : Layout) → 5 ≤ L.nodes → (turns : List (ℕ × Event)) → IsSound (after (start L) turns)
sound L enough turns = sound_after (start L) (sound_start L enough) turns

pub sound_once : (s : State) → IsSound s → NoNodeTwice s
sound_once s k w v o p i j l m n is is' at at' = k.once.once o p i j n
    (ap (λ x. slice_get (retired_in x) i) (held_by w o l is) ∙ at)
    (ap (λ x. slice_get (retired_in x) j) (held_by v p m is') ∙ at')
  where
    held_by : (w o : ℕ) (l : Ledger) → held (of s w).ledgers o ≡ Some l → ledger_at s k.holder o ≡ Some l
    held_by w o l is = ap (λ (y : ℕ). held (of s y).ledgers o) (sym (k.law.holders.only w o (ap is_some is))) ∙ is

-- a slot that is reached has a greater birth than each node of it that was retired
pub sound_younger : (s : State) → IsSound s → (w o i : ℕ) (l : Ledger) (n : NodeId)
    → held (of s w).ledgers o ≡ Some l → slice_get l.retired i ≡ Some n → Reached s.memory n.slot
    → n.birth < (node s.memory n.slot).birth
sound_younger s k w o i l n is at r = elim (cases_lt n.birth (word s.memory n.slot)) [
  | inl less ↦ less
  | inr more ↦ absurd (not_reached s k.holder k.law k.once o i n there (same (k.once.bound o i n there) more)
      (record { path = r.path; ends = r.ends; is_slot = r.is_slot }))
]
  where
    there : slice_get (retired_in (ledger_at s k.holder o)) i ≡ Some n
    there = ap (λ x. slice_get (retired_in x) i) (ap (λ (y : ℕ). held (of s y).ledgers o)
        (sym (k.law.holders.only w o (ap is_some is))) ∙ is) ∙ at

    same : n.birth ≤ word s.memory n.slot → word s.memory n.slot ≤ n.birth → n.birth ≡ word s.memory n.slot
    same a b = omega (arith, a, b)

pub no_node_is_cut_twice : OfEachState NoNodeTwice
no_node_is_cut_twice L enough turns = sound_once (after (start L) turns) (sound L enough turns)
