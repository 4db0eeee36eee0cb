-- The epoch that a sight reads is not below any that was read before.
use Rattle.std.proofs.Common.{◌≡◌, ℕ, ◌≤◌, List, [], ◌∷◌, ◌++◌, sym, subst, ◌∙◌, arith}
use Rattle.std.specs.Prelude.{Some, Contains}
use Rattle.std.proofs.lemmas.List.Elements.{Contains-append_left}
use Rattle.std.proofs.lemmas.Option.{same_Some}
use Rattle.nm_model.specs.Walks.{Entry}
use Rattle.nm_order.specs.Reads.{HasRead, ReadLast}
use Rattle.nm_order.proofs.ReadEpochs.{epochs_are_read_in_order}
use Rattle.nm_steps.specs.Steps.{PassView, IsInRun}
use Rattle.nm_epoch.specs.Resting.{epochs}
use Rattle.nm_epoch.specs.Scans.{IsSightOf}

read_before : (old new : List Entry) (x : Entry) (e : ℕ) → new ≡ old ++ x ∷ [] → HasRead old e → HasRead new e
read_before old new x e more read = record {
  entry = read.entry;
  among = subst
      (λ (log : List Entry). Contains log read.entry) (sym more)
      (Contains-append_left old (x ∷ []) read.entry read.among);
  tells = read.tells;
}

pub is_newest : (p q : PassView) (epoch : ℕ) → IsSightOf epoch p.view.log q.view.log → (epochs q).seen ≡ Some epoch
    → IsInRun q → (e : ℕ) → HasRead p.view.log e → e ≤ epoch
is_newest p q epoch sight seen run e read = go (epochs_are_read_in_order q.view.layout
    (let least = run.fits.least in omega arith) q.view.number q.view.log run.run.is_part e
    (read_before p.view.log q.view.log _ e sight.2 read))
  where
    go : ReadLast q.view.log (epochs q).seen e → e ≤ epoch
    go r = let same : r.last ≡ epoch = same_Some r.last epoch (sym r.is_seen ∙ seen) in let above = r.above in
        omega (arith, same, above)
