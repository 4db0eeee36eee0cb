-- What each turn does to the ledger of each origin, whoever holds it.
use Rattle.std.proofs.Common.{◌≡◌, ℕ, ◌<◌, ◌≢◌, ◌==◌, eqb, true, cond, List, [], ◌∷◌, ◌++◌, length, append-nil, append_assoc, refl, sym, ap, subst, ◌∙◌, arith, true≢false}
use Rattle.std.specs.Prelude.{Option, Some, None, is_some, option_map, Ok}
use native.Mathlib.Decide.{ℕ_discrete}
use Rattle.std.proofs.lemmas.Bool.{cond_both, cond-true, cond-false, eq-eqb, ne_eqb}
use Rattle.nm_edge.specs.Layouts.{Layout}
use Rattle.nm_edge.specs.declared.node.NodeId.{NodeId}
use Rattle.nm_model.specs.declared.event.Event.{Event}
use Rattle.nm_model.specs.declared.event.Event.TheVariants.{Give, Join}
use Rattle.nm_model.specs.declared.reply.Reply.{Reply}
use Rattle.nm_model.specs.declared.reply.Reply.TheVariants.{Cut, Freed}
use Rattle.nm_model.specs.declared.ledger.Queued.{Queued}
use Rattle.nm_model.specs.declared.ledger.Ledger.{Ledger}
use Rattle.nm_model.specs.Maps.{or_else}
use Rattle.nm_model.specs.Memory.{Memory}
use Rattle.nm_model.specs.Ledgers.{held, labelled, with_cut, with_freed, free, taken_over}
use Rattle.nm_model.specs.Knowledge.{Knowledge}
use Rattle.nm_model.specs.Learning.{learn}
use Rattle.nm_model.specs.Step.{write}
use Rattle.nm_model.specs.Runs.{State, of, start, after, trace, next, outcome, reply_of, applied}
use Rattle.nm_model.specs.Laws.{nodes_cut_of, cuts_of}
use Rattle.nm_laws.proofs.Steps.{each, moved, Allowed, by_step}
use Rattle.nm_laws.proofs.Sizes.{Staffed, staffed_step, staffed_start}
use Rattle.nm_laws.proofs.Epochs.{other_worker}
use Rattle.nm_laws.proofs.Held.{held-label, held-retire_same, held-retire_other, held-taken_over}
use Rattle.nm_laws.proofs.Changes.{Ripe, IsWon, Change, Changed, changed}
use Rattle.nm_laws.proofs.Changes.Change.{Keeps, Labels, Cuts, Frees}
use Rattle.nm_laws.proofs.Holders.{Holders, heirs, Joins, joins, by_worker, holders_moved, holders_joined, holders_start}
use Rattle.nm_laws.proofs.Lawful.{applied_is, each_turn}

-- the ledger of an origin, by who holds it
abbrev pub ledger_at : State → (ℕ → ℕ) → ℕ → Option Ledger
ledger_at s h o = held (of s (h o)).ledgers o

-- the nodes of an origin that a turn cuts
abbrev pub cut_at : State → ℕ × Event → ℕ → List NodeId
cut_at s t o = cond (t.0 == o) (nodes_cut_of (outcome s t)) []

-- what a turn does to the ledger of an origin: nothing; it labels the queue; its cut enters the
-- queue; or the front leaves
pub data OriginStep (s : State) (t : ℕ × Event) (o : ℕ) (before after : Option Ledger) : Type 0 where
  Unchanged : after ≡ before → cut_at s t o ≡ [] → OriginStep s t o before after
  Relabelled : after ≡ option_map (labelled s.memory.epoch) before → cut_at s t o ≡ [] → OriginStep s t o before after
  Extended : (l : Ledger) (ns : List NodeId) → before ≡ Some l → after ≡ Some (with_cut ns l) → o ≡ t.0
      → cut_at s t o ≡ ns → outcome s t ≡ Ok (Cut ns) → IsWon s t.0 t.1 ns → OriginStep s t o before after
  Shortened : (l : Ledger) (q : Queued) (rest : List Queued) → before ≡ Some l → l.queue ≡ q ∷ rest
      → after ≡ Some (with_freed q.node l) → Ripe (of s t.0).brief.seen q → cut_at s t o ≡ []
      → outcome s t ≡ Ok (Freed q.node) → t.1 ≡ Give q.node.slot → OriginStep s t o before after

-- who holds what, after a turn, and what became of each ledger
pub record Turned (s : State) (h : ℕ → ℕ) (t : ℕ × Event) : Type 0 where
  pub holder : ℕ → ℕ
  pub holders : Holders (next s t) holder
  pub step : (o : ℕ) → OriginStep s t o (ledger_at s h o) (ledger_at (next s t) holder o)

-- an outcome that is no cut
pub uncut : (s : State) (t : ℕ × Event) (o : ℕ) → nodes_cut_of (outcome s t) ≡ [] → cut_at s t o ≡ []
uncut s t o none = cond_both (t.0 == o) (nodes_cut_of (outcome s t)) [] (λ ns. ns ≡ []) (λ _. none) (λ _. refl)

no_cut : (r : Reply) → ((ns : List NodeId) → r ≡ Cut ns → ⊥) → nodes_cut_of (Ok r) ≡ []
no_cut (Cut ns) none = absurd (none ns refl)
no_cut r none = refl

-- a join changes no ledger
pub ledger_joined : (s : State) (h : ℕ → ℕ) (w v : ℕ) (t : State) → Joins s t w v → v ≢ w → Holders s h → (o : ℕ)
    → ledger_at t (heirs h w v) o ≡ ledger_at s h o
ledger_joined s h w v t j ne holders o = elim (ℕ_discrete (h o) v) [
  | yes e ↦ ap (λ (y : ℕ). held (of t y).ledgers o) (cond-true (eqb (h o) v) w (h o) (eq-eqb (h o) v e))
      ∙ (ap (λ k. held k.ledgers o) j.heir ∙ (taken ∙ (from_leaver (held (of s v).ledgers o) (held (of s w).ledgers o)
      refl e ∙ ap (λ (y : ℕ). held (of s y).ledgers o) (sym e))))
  | no far ↦ ap (λ (y : ℕ). held (of t y).ledgers o) (cond-false (eqb (h o) v) w (h o) (ne_eqb (h o) v far))
      ∙ by_worker s t w v j (λ u k. h o ≡ u → held k.ledgers o ≡ ledger_at s h o)
      (λ e. taken ∙ (from_heir (held (of s v).ledgers o) (held (of s w).ledgers o) refl far
      ∙ ap (λ (y : ℕ). held (of s y).ledgers o) (sym e)))
      (λ e. absurd (far e)) (λ u _ _ e. ap (λ (y : ℕ). held (of s y).ledgers o) (sym e)) (h o) refl
]
  where
    taken : held (taken_over (of s w).ledgers (of s v).ledgers) o
        ≡ or_else (held (of s v).ledgers o) (held (of s w).ledgers o)
    taken = held-taken_over (of s w).ledgers (of s v).ledgers o (holders.sizes w ∙ sym (holders.sizes v))

    from_leaver : (a b : Option Ledger) → held (of s w).ledgers o ≡ b → h o ≡ v → or_else a b ≡ a
    from_leaver (Some l) b k e = refl
    from_leaver None None k e = refl
    from_leaver None (Some l) k e = absurd (ne (sym e ∙ sym (holders.only w o (ap is_some k))))

    from_heir : (a b : Option Ledger) → held (of s v).ledgers o ≡ a → (h o ≡ v → ⊥) → or_else a b ≡ b
    from_heir None b i far = refl
    from_heir (Some l) b i far = absurd (far (sym (holders.only v o (ap is_some i))))

module _ (s : State) (h : ℕ → ℕ) (holders : Holders s h) (w : ℕ) (e : Event) (ok : Allowed s w e)
    (is_next : next s (w, e) ≡ applied s w e) (is_outcome : outcome s (w, e) ≡ Ok (reply_of s w e)) where
  -- the ledger of an origin after what one worker learned
  moved_ledger : (m : Memory) (k : Knowledge) (o : ℕ) → w < length s.workers → (P : Option Ledger → Type 0)
      → (h o ≡ w → P (held k.ledgers o)) → (h o ≢ w → P (ledger_at s h o)) → P (ledger_at (moved s w m k) h o)
  moved_ledger m k o inside P own others = each s.layout (λ u x. h o ≡ u → P (held x.ledgers o)) s.workers w k inside
      own (λ u ne i. subst (λ (y : ℕ). P (held (of s y).ledgers o)) i (others (λ z. ne (sym i ∙ z)))) (h o) refl

  pub step_of : (k : Knowledge) (m : Memory) → w < length s.workers → Change s w e (reply_of s w e) k → (o : ℕ)
      → OriginStep s (w, e) o (ledger_at s h o) (ledger_at (moved s w m k) h o)
  step_of k m inside (Keeps same _ un _) o = moved_ledger m k o inside (λ x. OriginStep s (w, e) o (ledger_at s h o) x)
      (λ own. Unchanged (ap (λ ls. held ls o) same ∙ ap (λ (y : ℕ). held (of s y).ledgers o) (sym own)) none)
      (λ _. Unchanged refl none)
    where
      none : cut_at s (w, e) o ≡ []
      none = uncut s (w, e) o (ap nodes_cut_of is_outcome ∙ no_cut (reply_of s w e) un)
  step_of k m inside (Labels is _ r) o = moved_ledger m k o inside (λ x. OriginStep s (w, e) o (ledger_at s h o) x)
      (λ own. Relabelled (ap (λ ls. held ls o) is ∙ (held-label s.memory.epoch (of s w).ledgers o
      ∙ ap (λ (y : ℕ). option_map (labelled s.memory.epoch) (held (of s y).ledgers o)) (sym own))) none)
      (λ _. Unchanged refl none)
    where
      none : cut_at s (w, e) o ≡ []
      none = uncut s (w, e) o (ap nodes_cut_of (is_outcome ∙ ap (λ (x : Reply). Ok x) r))
  step_of k m inside (Cuts ns is _ r won) o = moved_ledger m k o inside
      (λ x. OriginStep s (w, e) o (ledger_at s h o) x) own (λ ne. others (λ z. ne (ap h z ∙ mine)))
    where
      cut_is : outcome s (w, e) ≡ Ok (Cut ns)
      cut_is = is_outcome ∙ ap (λ (x : Reply). Ok x) r

      mine : h w ≡ w
      mine = holders.own w ok.worker ok.stays

      place : w < length (of s w).ledgers
      place = let size = holders.sizes w in let lt = ok.worker in omega arith

      others : (o ≡ w → ⊥) → OriginStep s (w, e) o (ledger_at s h o) (ledger_at s h o)
      others ne = Unchanged refl (cond-false (w == o) (nodes_cut_of (outcome s (w, e))) []
          (ne_eqb w o (λ z. ne (sym z))))

      own : h o ≡ w → OriginStep s (w, e) o (ledger_at s h o) (held k.ledgers o)
      own is_w = elim (ℕ_discrete o w) [
        | yes same ↦ go (ledger_at s h o) refl (ap is_some (ap (λ (y : ℕ). held (of s (h y)).ledgers y) same)
            ∙ holders.some w ok.worker) same
        | no ne ↦ Unchanged (ap (λ ls. held ls o) is ∙ (held-retire_other (of s w).ledgers w ns o ne
            ∙ ap (λ (y : ℕ). held (of s y).ledgers o) (sym is_w)))
            (cond-false (w == o) (nodes_cut_of (outcome s (w, e))) [] (ne_eqb w o (λ z. ne (sym z))))
      ]
        where
          go : (x : Option Ledger) → ledger_at s h o ≡ x → is_some x ≡ true → o ≡ w
              → OriginStep s (w, e) o (ledger_at s h o) (held k.ledgers o)
          go None i some same = absurd (true≢false (sym some))
          go (Some l) i some same = Extended l ns i
              (ap (λ (y : ℕ). held k.ledgers y) same ∙ (ap (λ ls. held ls w) is
              ∙ (held-retire_same (of s w).ledgers w ns place
              ∙ ap (option_map (with_cut ns)) (ap (λ (y : ℕ). held (of s w).ledgers y) (sym same)
              ∙ (sym (ap (λ (y : ℕ). held (of s y).ledgers o) is_w) ∙ i)))))
              same (cond-true (w == o) (nodes_cut_of (outcome s (w, e))) [] (eq-eqb w o (sym same))
              ∙ ap nodes_cut_of cut_is) cut_is won
  step_of k m inside (Frees x q f ripe is _ r give) o = moved_ledger m k o inside
      (λ y. OriginStep s (w, e) o (ledger_at s h o) y) own (λ _. Unchanged refl none)
    where
      free_is : outcome s (w, e) ≡ Ok (Freed q.node)
      free_is = is_outcome ∙ ap (λ (y : Reply). Ok y) r

      none : cut_at s (w, e) o ≡ []
      none = uncut s (w, e) o (ap nodes_cut_of free_is)

      own : h o ≡ w → OriginStep s (w, e) o (ledger_at s h o) (held k.ledgers o)
      own is_w = elim (ℕ_discrete o f.origin) [
        | yes same ↦ Shortened f.ledger q f.rest (ap (λ (y : ℕ). held (of s y).ledgers o) is_w
            ∙ (ap (λ (y : ℕ). held (of s w).ledgers y) same ∙ f.is_held)) f.queue
            (ap (λ ls. held ls o) is ∙ (ap (λ (y : ℕ). held (free (of s w).ledgers q.node) y) same ∙ f.after)) ripe
            none free_is (give ∙ ap Give (sym f.slot))
        | no ne ↦ Unchanged (ap (λ ls. held ls o) is ∙ (f.others o ne
            ∙ ap (λ (y : ℕ). held (of s y).ledgers o) (sym is_w))) none
      ]

-- ---- every turn

turned_moved : (s : State) (h : ℕ → ℕ) → Staffed s → Holders s h → (w : ℕ) (e : Event) → Allowed s w e
    → next s (w, e) ≡ applied s w e → outcome s (w, e) ≡ Ok (reply_of s w e) → ((v : ℕ) → e ≡ Join v → ⊥)
    → Turned s h (w, e)
turned_moved s h staffed holders w e ok is_next is_outcome alone = record {
  holder = h;
  holders = rw is (holders_moved s h w m e (reply_of s w e) k inside ok.worker what holders);
  step = λ o. rw is (step_of s h holders w e ok is_next is_outcome k m inside what.ledgers o);
}
  where
    m : Memory
    m = write s.memory (of s w) w e

    k : Knowledge
    k = learn w (of s w) e (reply_of s w e)

    inside : w < length s.workers
    inside = let size = staffed.workers in let lt = ok.worker in omega arith

    what : Changed s w e (reply_of s w e) k
    what = changed s w e ok alone

    is : next s (w, e) ≡ moved s w m k
    is = is_next ∙ applied_is s w e alone

turned_joined : (s : State) (h : ℕ → ℕ) → Staffed s → Holders s h → (w v : ℕ) → Allowed s w (Join v)
    → next s (w, Join v) ≡ applied s w (Join v) → outcome s (w, Join v) ≡ Ok (reply_of s w (Join v))
    → Turned s h (w, Join v)
unfolding applied
turned_joined s h staffed holders w v ok is_next is_outcome = record {
  holder = heirs h w v;
  holders = rw is_next (holders_joined s h w v (applied s w (Join v)) refl j there.0 ok.worker ok.stays holders);
  step = λ o. rw is_next (Unchanged (ledger_joined s h w v (applied s w (Join v)) j there.0 holders o)
      (uncut s (w, Join v) o (ap nodes_cut_of is_outcome)));
}
  where
    there : (v ≢ w) × (v < s.layout.workers)
    there = other_worker s w v ok.event

    j : Joins s (applied s w (Join v)) w v
    j = joins s w v (let size = staffed.workers in let lt = ok.worker in omega arith)
        (let size = staffed.workers in let lt = there.1 in omega arith) there.0

pub turned : (s : State) (h : ℕ → ℕ) → Staffed s → Holders s h → (t : ℕ × Event) → Turned s h t
turned s h staffed holders = each_turn s (Turned s h)
    (λ t r is_next is_refused. record {
      holder = h;
      holders = rw is_next holders;
      step = λ o. rw is_next
          (Unchanged refl (uncut s t o (ap nodes_cut_of is_refused)));
    })
    (turned_moved s h staffed holders) (turned_joined s h staffed holders)

-- ---- what holds over runs

-- staffed, and each ledger with one holder
pub record Manned (s : State) : Type 0 where
  pub staffed : Staffed s
  pub holder : ℕ → ℕ
  pub holders : Holders s holder

pub staffed_next : (s : State) (t : ℕ × Event) → Staffed s → Staffed (next s t)
staffed_next s t staffed = by_step Staffed (λ s w e x _. staffed_step s w e x) s t staffed

abbrev pub manned_start : (L : Layout) → Manned (start L)
manned_start L = record { staffed = staffed_start L; holder = λ o. o; holders = holders_start L }

-- the ledger of an origin that somebody holds is the one that its holder has
pub the_ledger : (s : State) (m : Manned s) (w o : ℕ) (l : Ledger) → held (of s w).ledgers o ≡ Some l
    → ledger_at s m.holder o ≡ Some l
the_ledger s m w o l is = ap (λ (y : ℕ). held (of s y).ledgers o) (sym (m.holders.only w o (ap is_some is))) ∙ is

-- what holds of the ledgers of all origins with what was told, and is kept by each turn, holds of
-- those of a run
pub over_runs : (P : ℕ → Option Ledger → List NodeId → Type 0)
    → ((s : State) (t : ℕ × Event) (o : ℕ) (before after : Option Ledger) (told : List NodeId)
    → OriginStep s t o before after → P o before told → P o after (told ++ cut_at s t o))
    → (s : State) (m : Manned s) (ts : List (ℕ × Event)) (told : ℕ → List NodeId)
    → ((o : ℕ) → P o (ledger_at s m.holder o) (told o))
    → (last : Manned (after s ts)) × ((o : ℕ) → P o (ledger_at (after s ts) last.holder o)
    (told o ++ cuts_of o (trace s ts)))
unfolding after trace
over_runs P keeps s m [] told p = (m, λ o. rw (append-nil (told o)) (p o))
over_runs P keeps s m (t ∷ ts) told p =
    let k = turned s m.holder m.staffed m.holders t in
    let now : Manned (next s t) = record {
      staffed = staffed_next s t m.staffed;
      holder = k.holder;
      holders =
          k.holders;
    } in
    let rest = over_runs P keeps (next s t) now ts (λ o. told o ++ cut_at s t o)
    (λ o. keeps s t o _ _ (told o) (k.step o) (p o)) in
    (rest.0, λ o. rw (← append_assoc (told o) (cut_at s t o) (cuts_of o (trace (next s t) ts))) (rest.1 o))
