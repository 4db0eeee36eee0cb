-- At a tree's end nobody has a slot in hands, and the one that stands for all holds what the run's
-- end tells.
use Rattle.std.proofs.Common.{◌≡◌, ℕ, inl, inr, true, false, List, length, refl, sym, ap, ◌∙◌}
use Rattle.std.specs.Prelude.{Some, slice_get}
use Rattle.std.proofs.lemmas.Bool.{cases_lt}
use Rattle.std.proofs.lemmas.List.{get_or_past, nil_from_length}
use Rattle.std.proofs.lemmas.Option.{slice_get-get_or}
use Rattle.nm_edge.specs.Layouts.{Layout}
use Rattle.nm_model.specs.declared.knowledge.Draft.{Draft}
use Rattle.nm_model.specs.Knowledge.{Knowledge, newcomer, is_private}
use Rattle.nm_model.specs.Maps.{has}
use Rattle.nm_model.specs.Ordered.{ordered, trace_in}
use Rattle.nm_model.specs.Runs.{State, of}
use Rattle.nm_tree.specs.Ended.{IsEndOf, end_of}
use Rattle.nm_steps.specs.declared.view.View.{View}
use Rattle.nm_steps.specs.Rules.{knowledge, IsShown}
use Rattle.nm_tree.specs.Closing.{AreFrom}
use Rattle.nm_tree.specs.Workers.{WorkerView, IsWorker}
use Rattle.nm_tree.proofs.EndWorkers.{here, inside, worker_at, there, own, no_drafts}

undrafted : (k : Knowledge) (x : ℕ) → length k.drafts ≡ 0 → is_private k x ≡ true → ⊥
undrafted k x none' is = not_true (sym (ap (λ (ds : List (ℕ × Draft)). has ds x) (nil_from_length k.drafts none')) ∙ is)
  where
    not_true : false ≡ true → ⊥
    not_true e = absurd (cc)

module _ (L : Layout) (words : List ℕ) (e : IsEndOf L words) (w : WorkerView) (home : ℕ) (is : IsWorker w home)
    (is_shown : IsShown L (trace_in (ordered L) e.turns) w.pass.view)
    (each : AreFrom 0 w.queues) (all : length w.queues ≡ L.workers) where
  abbrev s : State
  s = end_of L words e

  abbrev v : View
  v = w.pass.view

  -- a worker that there is, by its part of the run; or a newcomer
  pub none_private : (u x : ℕ) → is_private (of s u) x ≡ true → ⊥
  none_private u x mine = elim (cases_lt u (length s.workers)) [
    | inl less ↦ let at = slice_get-get_or s.workers u (newcomer s.layout u) less in
        undrafted (of s u) x (sym (ap (λ (k : Knowledge). length k.drafts)
        (worker_at L words e w home is is_shown each all u (of s u) at))
        ∙ no_drafts L words e w home is is_shown each all u
        (there L words e w home is is_shown each all u (inside L words e w home is is_shown each all u (of s u) at)))
        mine
    | inr past ↦ undrafted (newcomer s.layout u) x refl
        (sym (ap (λ (k : Knowledge). is_private k x) (get_or_past s.workers u (newcomer s.layout u) past)) ∙ mine)
  ]

  -- and what the last one holds is what the run's end tells
  pub known : of s v.number ≡ knowledge v
  known =
      let at : slice_get s.workers v.number ≡ Some (of s v.number) = slice_get-get_or s.workers v.number
      (newcomer s.layout v.number) (here L words e w home is is_shown each all) in
      sym (worker_at L words e w home is is_shown each all v.number (of s v.number) at)
      ∙ own L words e w home is is_shown each all
