-- A whole turn from a lawful state: refused, of one worker, or a join. What it leaves of the laws,
-- the ledgers, births and the pool.
use Rattle.std.proofs.Common.{◌≡◌, ℕ, ◌<◌, ◌≤◌, ◌≢◌, ◌⊎◌, inl, inr, true, false, length, refl, sym, ap, subst, ◌∙◌, arith, get_or-set_same, get_or-set_other, le_of_eq}
use Rattle.std.specs.Prelude.{Ok, Err}
use native.Mathlib.Decide.{ℕ_discrete}
use Rattle.nm_model.specs.declared.event.Event.{Event}
use Rattle.nm_model.specs.declared.event.Event.TheVariants.{Give, Join}
use Rattle.nm_model.specs.declared.reply.Reply.{Reply}
use Rattle.nm_model.specs.declared.reply.Refused.{Refused}
use Rattle.nm_model.specs.Memory.{Memory, in_pool}
use Rattle.nm_model.specs.Knowledge.{Knowledge, newcomer}
use Rattle.nm_model.specs.Learning.{learn}
use Rattle.nm_model.specs.Step.{write, refusal}
use Rattle.nm_model.specs.Runs.{State, of, next, outcome, reply_of, applied}
use Rattle.nm_model.specs.Laws.{nodes_cut_of}
use Rattle.nm_laws.proofs.Steps.{each, moved, Allowed, passed}
use Rattle.nm_laws.proofs.Epochs.{other_worker}
use Rattle.nm_laws.proofs.Changes.{Changed, changed}
use Rattle.nm_laws.proofs.Holders.{heirs, Joins, joins, by_worker}
use Rattle.nm_laws.proofs.TreeSteps.{Lawful, high_from}
use Rattle.nm_laws.proofs.Lawful.{applied_is, moved_lawful, join_lawful, each_turn}
use Rattle.nm_laws.proofs.Outcomes.{no_reply}
use Rattle.nm_laws.proofs.Origins.{OriginStep, ledger_at, uncut, step_of, ledger_joined}
use Rattle.nm_laws.proofs.Origins.OriginStep.{Unchanged}
use Rattle.nm_laws.proofs.Births.{word, Unborn, BornFirst, Aged, aged}

-- a slot in the pool, or private and not yet born
abbrev pub IsIdle : State → ℕ → Type 0
IsIdle s x = (in_pool s.memory x ≡ true) ⊎ ((w : ℕ) × Unborn (of s w) x)

-- births only grow; an idle slot stays so until its birth grows
pub record Aging (s t : State) : Type 0 where
  pub words : (x : ℕ) → word s.memory x ≤ word t.memory x
  pub idle : (x : ℕ) → IsIdle s x → IsIdle t x ⊎ (word s.memory x < word t.memory x)
  pub born : (w : ℕ) → BornFirst (of t w)

pub record LawfulTurn (s : State) (h : ℕ → ℕ) (t : ℕ × Event) : Type 0 where
  pub holder : ℕ → ℕ
  pub law : Lawful (next s t) holder
  pub step : (o : ℕ) → OriginStep s t o (ledger_at s h o) (ledger_at (next s t) holder o)
  pub aging : Aging s (next s t)
  pub given : (x : ℕ) (r : Reply) → t.1 ≡ Give x → outcome s t ≡ Ok r → in_pool (next s t).memory x ≡ true

module _ (s : State) (h : ℕ → ℕ) (law : Lawful s h) (born : (w : ℕ) → BornFirst (of s w)) where
  aged_moved : (w : ℕ) (m : Memory) (k : Knowledge) → w < length s.workers → Aged s w m k → Aging s (moved s w m k)
  aged_moved w m k inside a = record {
    words = a.words;
    idle = idle;
    born = each s.layout (λ u x. BornFirst x) s.workers w k inside (a.drafts (born w)) (λ u _. born u);
  }
    where
      own : of (moved s w m k) w ≡ k
      own = get_or-set_same s.workers w k (newcomer s.layout w) inside

      mine : (x : ℕ) → Unborn k x → IsIdle (moved s w m k) x
      mine x u = inr (w, rw own u)

      idle : (x : ℕ) → IsIdle s x → IsIdle (moved s w m k) x ⊎ (word s.memory x < word m x)
      idle x (inl pool) = go (a.pooled x pool)
        where
          go : (in_pool m x ≡ true) ⊎ Unborn k x → IsIdle (moved s w m k) x ⊎ (word s.memory x < word m x)
          go (inl i) = inl (inl i)
          go (inr u) = inl (mine x u)
      idle x (inr u) = elim (ℕ_discrete u.0 w) [
        | yes e ↦ go (a.unborn x (subst (λ (y : ℕ). Unborn (of s y) x) e u.1))
        | no ne ↦ inl (inr (u.0, rw (get_or-set_other s.workers w u.0 k (newcomer s.layout u.0) ne) u.1))
      ]
        where
          go : Unborn k x ⊎ ((in_pool m x ≡ true) ⊎ (word s.memory x < word m x))
              → IsIdle (moved s w m k) x ⊎ (word s.memory x < word m x)
          go (inl v) = inl (mine x v)
          go (inr (inl i)) = inl (inl i)
          go (inr (inr i)) = inr i

  given_moved : (w x : ℕ) → Allowed s w (Give x) → in_pool (write s.memory (of s w) w (Give x)) x ≡ true
  unfolding write refusal
  given_moved w x ok = get_or-set_same s.memory.pool x true false
      (let range = high_from 6 s.layout.nodes x (passed _ _ _ ok.event).0 in let size = law.roomy.pool in omega arith)

  turn_moved : (w : ℕ) (e : Event) → Allowed s w e → next s (w, e) ≡ applied s w e
      → outcome s (w, e) ≡ Ok (reply_of s w e) → ((v : ℕ) → e ≡ Join v → ⊥) → LawfulTurn s h (w, e)
  turn_moved w e ok is_next is_outcome alone = record {
    holder = h;
    law = rw is_next (moved_lawful s h w e law ok alone);
    step = λ o. rw is (step_of s h law.holders w e ok is_next is_outcome k m inside what.ledgers o);
    aging = rw is (aged_moved w m k inside (aged s h law w (born w) e ok alone));
    given = λ x r give _. rw is (subst (λ (y : Event). Allowed s w y
        → in_pool (write s.memory (of s w) w y) x ≡ true) (sym give) (given_moved w x) ok);
  }
    where
      m : Memory
      m = write s.memory (of s w) w e

      k : Knowledge
      k = learn w (of s w) e (reply_of s w e)

      inside : w < length s.workers
      inside = let size = law.staffed.workers in let lt = ok.worker in omega arith

      what : Changed s w e (reply_of s w e) k
      what = changed s w e ok alone

      is : next s (w, e) ≡ moved s w m k
      is = is_next ∙ applied_is s w e alone

  turn_joined : (w v : ℕ) → Allowed s w (Join v) → next s (w, Join v) ≡ applied s w (Join v)
      → outcome s (w, Join v) ≡ Ok (reply_of s w (Join v)) → LawfulTurn s h (w, Join v)
  unfolding applied write
  turn_joined w v ok is_next is_outcome = record {
    holder = heirs h w v;
    law = rw is_next (join_lawful s h w v law ok);
    step = λ o. rw is_next (Unchanged (ledger_joined s h w v (applied s w (Join v)) j there.0 law.holders o)
        (uncut s (w, Join v) o (ap nodes_cut_of is_outcome)));
    aging = rw is_next (record {
      words = λ x. le_of_eq refl;
      idle = λ x i. inl (idle x i);
      born = by_worker s (applied s w (Join v)) w v j (λ u x. BornFirst x) (born w) (born v) (λ u _ _. born u);
    });
    given = λ x r give. absurd (differ x v (sym give));
  }
    where
      differ : (x v : ℕ) → Give x ≡ Join v → ⊥
      differ x v e = cc

      there : (v ≢ w) × (v < s.layout.workers)
      there = other_worker s w v ok.event

      j : Joins s (applied s w (Join v)) w v
      j = joins s w v (let size = law.staffed.workers in let lt = ok.worker in omega arith)
          (let size = law.staffed.workers in let lt = there.1 in omega arith) there.0

      idle : (x : ℕ) → IsIdle s x → IsIdle (applied s w (Join v)) x
      idle x (inl i) = inl i
      idle x (inr u) = inr (
        u.0,
        by_worker s (applied s w (Join v)) w v j (λ y k. Unborn (of s y) x → Unborn k x)
            (λ z. record { draft = z.draft; is = z.is; unborn = z.unborn })
            (λ z. record { draft = z.draft; is = z.is; unborn = z.unborn }) (λ y _ _ z. z) u.0 u.1,
      )

  turn_refused : (t : ℕ × Event) (r : Refused) → next s t ≡ s → outcome s t ≡ Err r → LawfulTurn s h t
  turn_refused t r is_next is_refused = record {
    holder = h;
    law = rw is_next law;
    step = λ o. rw is_next (Unchanged refl (uncut s t o (ap nodes_cut_of is_refused)));
    aging = rw is_next (record { words = λ x. le_of_eq refl; idle = λ x i. inl i; born = born });
    given = λ x q _ i. absurd (no_reply r q (sym is_refused ∙ i));
  }

  pub lawful_turn : (t : ℕ × Event) → LawfulTurn s h t
  lawful_turn = each_turn s (LawfulTurn s h) turn_refused turn_moved turn_joined
