-- What a join leaves: the heir with all ledgers, and the leaver gone.
use Rattle.std.proofs.Common.{◌≡◌, ◌≢◌, ℕ, ◌==◌, ◌<◌, List, length, slice_index_or, slice_set, refl, sym, ap, ◌∙◌, rules}
use Rattle.std.proofs.lemmas.Bool.{eq-eqb, ne_eqb, cond-true, cond-false}
use Rattle.std.proofs.lemmas.List.{set_comm, get_or_default, get_or-set_other}
use Rattle.nm_model.specs.declared.event.Event.TheVariants.{Join}
use Rattle.nm_model.specs.declared.reply.Reply.TheVariants.{Joined}
use Rattle.nm_model.specs.Knowledge.{Knowledge, newcomer}
use Rattle.nm_model.specs.Learning.{learn, inheriting, resigned}
use Rattle.nm_model.specs.Step.{write}
use Rattle.nm_model.specs.Runs.{State, of, applied}
use Rattle.nm_core.specs.Admission.{IsAdmitted}

-- what a worker knows, read by its number
pub found : (s : State) (v : ℕ) (k : Knowledge) → v < length s.workers → k ≡ slice_index_or s.workers v k → k ≡ of s v
found s v k there is = is ∙ get_or_default s.workers v k (newcomer s.layout v) there

-- the worker that passes its ledgers to another is there
module _ {s : State} {w v : ℕ} (a : IsAdmitted s w (Join v)) where
  pub is_another : v ≢ w
  is_another = let h = a.allowed in search rules

  pub is_there : v < length s.workers
  is_there = let h = a.allowed in let all = a.shaped.workers in search rules

module _ (s : State) (w v : ℕ) (apart : v ≢ w) where
  heir_learns : learn w (of s w) (Join v) (Joined (of s v).ledgers) ≡ inheriting (of s w) (of s v).ledgers
  unfolding learn
  heir_learns = cond-false (w == v) (resigned (of s w)) (inheriting (of s w) (of s v).ledgers)
      (ne_eqb w v (λ e. apart (sym e)))

  leaver_learns : learn v (of s v) (Join v) (Joined (of s v).ledgers) ≡ resigned (of s v)
  unfolding learn
  leaver_learns = cond-true (v == v) (resigned (of s v)) (inheriting (of s v) (of s v).ledgers) (eq-eqb v v refl)

  -- first the leaver resigns, and then the heir takes over
  pub joined : (leaver heir gone came : Knowledge) → w < length s.workers → v < length s.workers
      → leaver ≡ slice_index_or s.workers v leaver → gone ≡ resigned leaver
      → heir ≡ slice_index_or (slice_set s.workers v gone) w heir → came ≡ inheriting heir leaver.ledgers
      → record s { workers = slice_set (slice_set s.workers v gone) w came } ≡ applied s w (Join v)
  unfolding applied write
  joined leaver heir gone came w_there v_there leaver_is gone_is heir_is came_is =
      let here : leaver ≡ of s v = found s v leaver v_there leaver_is in
      let there : heir ≡ of s w = heir_is ∙ get_or-set_other s.workers v w gone heir (λ e. apart (sym e))
      ∙ get_or_default s.workers w heir (newcomer s.layout w) w_there in
      ap (λ (ws : List Knowledge). record s { workers = ws })
      (set_comm s.workers v w gone came apart ∙ rw (heir_learns, leaver_learns, came_is, gone_is, here, there) refl)
