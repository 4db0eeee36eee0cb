-- A worker that runs alone does so in each part of its time.
use Rattle.std.proofs.Common.{◌≡◌, ◌≢◌, ℕ, suc, ◌<◌, ◌==◌, Bool, cond, List, [], ◌∷◌, ◌++◌, append_assoc, refl, sym, ap, subst, ◌∙◌, arith}
use Rattle.std.specs.Prelude.{Option, None, All}
use Rattle.std.proofs.lemmas.Bool.{ne_eqb}
use Rattle.std.proofs.lemmas.List.{append_cancel_left}
use Rattle.nm_edge.specs.Layouts.{Layout}
use Rattle.nm_edge.specs.declared.node.NodeId.{NodeId}
use Rattle.nm_model.specs.declared.trace.Turn.{Turn}
use Rattle.nm_order.proofs.WalksOfRuns.{all_before, all_behind}
use Rattle.nm_steps.specs.Steps.{PassView, IsSamePass, HasSeenAllOf}
use Rattle.nm_progress.specs.Alone.{IsAlone, NoOtherPends, RunsAlone}
use Rattle.nm_progress.specs.Pending.{leaf_after, leaf_by}

pub leaf-append : (u : ℕ) (so : Option NodeId) (xs ys : List Turn)
    → leaf_after u so (xs ++ ys) ≡ leaf_after u (leaf_after u so xs) ys
leaf-append u so [] ys = refl
leaf-append u so (t ∷ xs) ys = leaf-append u (cond (t.worker == u) (leaf_by so t.event t.outcome) so) xs ys

-- turns of one worker leave the leaf of another
pub leaf_stays : (u w : ℕ) (so : Option NodeId) (ts : List Turn) → u ≢ w → All (λ t. t.worker ≡ w) ts
    → leaf_after u so ts ≡ so
leaf_stays u w so [] other own = refl
leaf_stays u w so (t ∷ ts) other own =
    ap (λ (b : Bool). leaf_after u (cond b (leaf_by so t.event t.outcome) so) ts)
    (ne_eqb t.worker u (λ same. other (sym same ∙ own 0 t (omega arith))))
    ∙ leaf_stays u w so ts other (λ i d below. own (suc i) d (omega (arith, below)))

module _ (p m q : PassView) (same : IsSamePass p m) (first : HasSeenAllOf m p) (last : HasSeenAllOf q m)
    (alone : IsAlone p q) where
  number : m.view.number ≡ p.view.number
  number = ap (λ (z : PassView). z.view.number) same

  in_two : alone.turns ≡ first.goes_on.more ++ last.goes_on.more
  in_two = append_cancel_left p.view.past _ _ (sym alone.is
      ∙ (last.goes_on.is ∙ (ap (λ (l : List Turn). l ++ last.goes_on.more) first.goes_on.is
      ∙ append_assoc p.view.past first.goes_on.more last.goes_on.more)))

  own : All (λ t. t.worker ≡ p.view.number) (first.goes_on.more ++ last.goes_on.more)
  own = subst (λ (l : List Turn). All (λ t. t.worker ≡ p.view.number) l) in_two alone.own

  own_first : All (λ t. t.worker ≡ p.view.number) first.goes_on.more
  own_first = all_before (λ t. t.worker ≡ p.view.number) first.goes_on.more last.goes_on.more own

  pub alone_before : IsAlone p m
  alone_before = record { turns = first.goes_on.more; is = first.goes_on.is; own = own_first }

  pub alone_later : IsAlone m q
  alone_later = record {
    turns = last.goes_on.more;
    is = last.goes_on.is;
    own = subst (λ (w : ℕ). All (λ t. t.worker ≡ w) last.goes_on.more) (sym number)
        (all_behind (λ t. t.worker ≡ p.view.number) first.goes_on.more last.goes_on.more own);
  }

  -- nobody else leaves a delete pending meanwhile
  pub rests_later : NoOtherPends p → NoOtherPends m
  rests_later rests u here other =
      let apart : u ≢ p.view.number = λ is. other (is ∙ sym number) in
      ap (leaf_after u None) first.goes_on.is
      ∙ (leaf-append u None p.view.past first.goes_on.more
      ∙ (leaf_stays u p.view.number (leaf_after u None p.view.past) first.goes_on.more apart own_first
      ∙ rests u (subst (λ (L : Layout). u < L.workers) (ap (λ (z : PassView). z.view.layout) same) here) apart))

pub runs_before : (p m q : PassView) → IsSamePass p m → HasSeenAllOf m p → HasSeenAllOf q m → RunsAlone p q
    → RunsAlone p m
runs_before p m q same first last runs = record {
  alone = alone_before p m q same first last runs.alone;
  rests =
      runs.rests;
}

pub runs_later : (p m q : PassView) → IsSamePass p m → HasSeenAllOf m p → HasSeenAllOf q m → RunsAlone p q
    → RunsAlone m q
runs_later p m q same first last runs = record {
  alone = alone_later p m q same first last runs.alone;
  rests =
      rests_later p m q same first last runs.alone runs.rests;
}
