-- One atomic step on a word that the caller owns. Assumes `Logic`.
use Rattle.std.proofs.Common.{◌≡◌, ℕ, [], ◌∷◌, refl}
use seplogic.Ra.Ura.{Ura}
use base.Logic.{SProp, ent, ex, upd_i, ex_i}
use base.Fml.{Fml, ftrue, fsep, fex}
use types.Logic.{Logic, sem}
use types.Kit.{‵, ◌$◌, ◌∵◌, !, qed, move, frame, each, assume, suffices, show, fjoin, fpack, done}
use denote.RawPtr.{block_ptr}
use denote.Steps.{nothing}
use Rattle.core.specs.Sync.RawAtomic.{Shift, rests, along, found, back, if_none, asks, always, word}

-- behind a swap that found m: the new number is there, and m is the one that was
abbrev pub swapped : ℕ → ℕ → ℕ → ℕ → ℕ → Fml
swapped b o n new m = fsep (word b o new) (fex (m ≡ n) (λ _. ftrue))

module _ {M : Type 1} {𝓤 : Ura M} (𝓛 : Logic 𝓤) where
  pub swaps_own : (b o n new : ℕ) → ent 𝓤 (sem 𝓛 (word b o n))
      (asks 𝓛 (block_ptr b o) (λ _. new) always (swapped b o n new))
  swaps_own b o n new =
      let F : SProp 𝓤 = ex 𝓤 (found 𝓛 [] b o (λ _. new) always (swapped b o n new)) in
      let T : SProp 𝓤 = sem 𝓛 (swapped b o n new n) in
      qed 𝓛 (‵ (word b o n) ∷ []) ∵ suffices ! _ (ex_i 𝓤
      (λ (s : Shift). along 𝓛 s (λ L. ex 𝓤 (found 𝓛 L b o (λ _. new) always (swapped b o n new))) []) rests) $
      suffices ! _ (upd_i 𝓤 F) $
      show ! (found 𝓛 [] b o (λ _. new) always (swapped b o n new)) n $ frame ! $ each !
      (λ (_ : always n). back 𝓛 [] b o (λ _. new) (swapped b o n new) n) (λ _. assume ! (‵ (word b o new)) $
      suffices ! _ (ex_i 𝓤 (λ (s : Shift). along 𝓛 s (if_none 𝓛 T) []) rests) $ suffices ! _ (upd_i 𝓤 T) $
      nothing ! $ fpack ! (n ≡ n) (λ _. ftrue) refl $ move ! (1 ∷ 0 ∷ []) $ fjoin ! $ done !)
