-- A key whose insert was answered true is in the set, over the page alone.
use Rattle.std.proofs.Common.{◌≡◌, ◌<◌, ◌≤◌, inl, inr, ℕ, Bool, true, false, cond, List, [], ◌∷◌, ◌++◌, length, refl, sym, ap, subst, ◌∙◌, arith, true≢false}
use Rattle.std.specs.Prelude.{filter, nat_le}
use Rattle.std.proofs.lemmas.Bool.{le-leb}
use Rattle.nm_edge.specs.Keys.{IsKey}
use Rattle.nm_edge.specs.Layouts.{Layout}
use Rattle.nm_model.specs.declared.event.Op.TheVariants.{Insert}
use Rattle.nm_model.specs.declared.trace.Turn.{Turn}
use Rattle.nm_model.specs.Headline.{words_after}
use Rattle.nm_model.specs.Acts.{InSet, Act, IsAmong, Replays, nothing, changed}
use Rattle.nm_theorem.specs.EachRun.{IsTrueDelete}
use Rattle.nm_model.specs.Histories.{AnswerStands, Called, HasHistory, IsHistory}
use Rattle.nm_steps.specs.Rules.{Extends}
use Rattle.nm_callers.specs.Meanwhile.{IsTrueInsert, NoneDeleted, StaysWhereNoneDeleted}
use Rattle.nm_callers.proofs.Replayed.{still, added}
use Rattle.nm_callers.proofs.TwoAnswers.{Ascend, no_later, others_ascend}

module _ (k : ℕ) (key : IsKey k) where
  -- a key that is there stays, where none of these acts takes it away
  holds_on : (acts : List Act) (S last : ℕ → Type 0) → Replays S acts last
      → ((a : Act) → IsAmong acts a → IsTrueDelete k a → ⊥) → S k → last k
  holds_on [] S last r none there = (r k key).0 there
  holds_on (x ∷ acts) S last r none there =
      holds_on acts (changed S x.op x.key x.answer) last r.2 (λ a at. none a (inr at))
      (still S k x.op x.key x.answer (λ d e t. none x (inl refl) (d, e, t)) there)

  -- behind an act that puts it in, where none takes it away that is as late
  pub put_in : (acts : List Act) (S last : ℕ → Type 0) → Replays S acts last → Ascend acts → (a : Act)
      → IsTrueInsert k a → ((c : Act) → IsAmong acts c → IsTrueDelete k c → c.moment < a.moment) → IsAmong acts a
      → last k
  put_in [] S last r up a puts none at = absurd at
  put_in (x ∷ acts) S last r up a puts none (inl is) =
      holds_on acts (changed S x.op x.key x.answer) last r.2
      (λ c there gone. let m = ap (λ (y : Act). y.moment) is in let f = no_later x acts up c there in
      let n = none c (inr there) gone in absurd (omega (arith, m, f, n)))
      (subst (λ (y : Act). changed S y.op y.key y.answer k) (sym is)
      (added S k a.op a.key a.answer puts.0 puts.1 puts.2))
  put_in (x ∷ acts) S last r up a puts none (inr at) =
      put_in acts (changed S x.op x.key x.answer) last r.2 (others_ascend x acts up) a puts
      (λ c there gone. none c (inr there) gone) at

-- an act that a filter keeps is one of the acts
among_all : (F : Act → Bool) (acts : List Act) (a : Act) → IsAmong (filter F acts) a → IsAmong acts a
among_all F [] a at = absurd at
among_all F (x ∷ acts) a at = go (F x) refl at (among_all F acts a)
  where
    go : (b : Bool) → F x ≡ b → IsAmong (cond b (x ∷ filter F acts) (filter F acts)) a
        → (IsAmong (filter F acts) a → IsAmong acts a) → IsAmong (x ∷ acts) a
    go true is (inl same) rest = inl same
    go true is (inr more) rest = inr (rest more)
    go false is more rest = inr (rest more)

-- the same up to a moment
module _ (k : ℕ) (key : IsKey k) (n : ℕ) where
  abbrev early : Act → Bool
  early a = nat_le a.moment n

  put_early : (acts : List Act) (S last : ℕ → Type 0) → Replays S (filter (λ (a : Act). nat_le a.moment n) acts) last
      → Ascend acts → (a : Act) → IsTrueInsert k a → a.moment ≤ n
      → ((c : Act) → IsAmong acts c → IsTrueDelete k c → c.moment < a.moment) → IsAmong acts a → last k
  put_early [] S last r up a puts within none at = absurd at
  put_early (x ∷ acts) S last r up a puts within none at = go (early x) refl r at
      (λ T replays there. put_early acts T last replays (others_ascend x acts up) a puts within
      (λ c among gone. none c (inr among) gone) there)
    where
      go : (b : Bool) → early x ≡ b → Replays S (cond b (x ∷ filter (λ (y : Act). nat_le y.moment n) acts)
          (filter (λ (y : Act). nat_le y.moment n) acts)) last → IsAmong (x ∷ acts) a
          → ((T : ℕ → Type 0) → Replays T (filter (λ (y : Act). nat_le y.moment n) acts) last → IsAmong acts a
          → last k) → last k
      go false late replays (inl is) rest = absurd (true≢false (sym (ap early is ∙ le-leb a.moment n within) ∙ late))
      go false late replays (inr there) rest = rest S replays there
      go true is_early replays (inl is) rest =
          holds_on k key (filter (λ (y : Act). nat_le y.moment n) acts) (changed S x.op x.key x.answer) last replays.2
          (λ c there gone. let among = among_all (λ (y : Act). nat_le y.moment n) acts c there in
          let m = ap (λ (y : Act). y.moment) is in let f = no_later x acts up c among in
          let less = none c (inr among) gone in absurd (omega (arith, m, f, less)))
          (subst (λ (y : Act). changed S y.op y.key y.answer k) (sym is)
          (added S k a.op a.key a.answer puts.0 puts.1 puts.2))
      go true is_early replays (inr there) rest = rest (changed S x.op x.key x.answer) replays.2 there

-- so it is in the set at each moment after the answer
pub stays_at_each_moment : (L : Layout) (start first last so_far rest : List Turn) (w k : ℕ) → IsKey k
    → AnswerStands L start first w Insert k true → Extends last first → HasHistory L last
    → NoneDeleted L start last k → last ≡ so_far ++ rest → length first ≤ length so_far → InSet (words_after L so_far) k
stays_at_each_moment L start first last so_far rest w k key s on (acts, h) none are within =
    let a = s.each on.more acts (subst (λ (ts : List Turn). IsHistory L ts acts) on.is h) in
    let begins = s.begins in
    let late = a.5 in
    let early' = a.6 in
    put_early k key (length so_far) acts nothing (InSet (words_after L so_far)) (h.moments so_far rest are)
    h.in_order a.0
    (ap (λ (c : Called). c.op) a.3, ap (λ (c : Called). c.key) a.3, a.4) (omega (arith, early', within))
    (λ c there gone. let before = none acts h c there gone in omega (arith, before, begins, late)) a.1

pub stays_where_none_deleted : StaysWhereNoneDeleted
stays_where_none_deleted L start first last w k key s on (acts, h) none =
    let a = s.each on.more acts (subst (λ (ts : List Turn). IsHistory L ts acts) on.is h) in
    let begins = s.begins in
    let late = a.5 in
    put_in k key acts nothing (InSet (words_after L last)) h.replays h.in_order a.0
    (ap (λ (c : Called). c.op) a.3, ap (λ (c : Called). c.key) a.3, a.4)
    (λ c there gone. let within = none acts h c there gone in omega (arith, within, begins, late)) a.1
