-- The theorem for each moment of the running threads, and for what each worker has seen.
use Rattle.std.specs.Prelude.{◌≡◌, ◌⊎◌, ◌==◌, ◌<◌, ℕ, Bool, true, false, ◌&&◌, List, ◌∷◌, ◌++◌, length, Contains, Some, Result, Ok}
use Rattle.std.specs.List.{list_any}
use mathlib.Core.Option.{some}
use lib.ListN.{get_elem?}
use Rattle.atomic_table.specs.Table.{State}
use Rattle.nm_edge.specs.Layouts.{Layout}
use Rattle.nm_edge.specs.declared.node.NodeId.{NodeId}
use Rattle.nm_model.specs.declared.event.Op.{Op}
use Rattle.nm_model.specs.declared.event.Op.TheVariants.{Has, Insert, Delete}
use Rattle.nm_model.specs.declared.event.Event.{Event}
use Rattle.nm_model.specs.declared.event.Event.TheVariants.{Link, Flag}
use Rattle.nm_model.specs.declared.reply.Reply.{Reply}
use Rattle.nm_model.specs.declared.reply.Reply.TheVariants.{Linked, Flagged}
use Rattle.nm_model.specs.declared.reply.Refused.{Refused}
use Rattle.nm_model.specs.declared.trace.Turn.{Turn}
use Rattle.nm_order.specs.Logs.{part_of}
use Rattle.nm_steps.specs.Packing.{words_of}
use Rattle.nm_theorem.specs.EachRun.{ReadersHaveLeft}
use Rattle.nm_model.specs.Headline.{Headline, words_after, freed_by}
use Rattle.nm_model.specs.Histories.{Called, HasHistory, answer_turn, call_begun}
use Rattle.nm_steps.specs.declared.view.View.{View}
use Rattle.nm_steps.specs.Rules.{Extends, IsShown, Kept}

-- ---- turns of a tree

-- each turn that was not refused is one of a worker of the tree
abbrev pub AreOfWorkers : Layout → List Turn → Type 0
AreOfWorkers L ts = (t : Turn) (r : Reply) → Contains ts t → t.outcome ≡ Ok r → t.worker < L.workers

-- an insert has won its link, or a delete its flag: the exchange because of which the call will
-- return true (Natarajan and Mittal, section 3.2)
abbrev pub wins : Op → Event → Result Reply Refused → Bool
wins Insert (Link p side leaf new) (Ok (Linked n)) = true
wins Delete (Flag p side s) (Ok (Flagged n)) = true
wins op e o = false

-- the worker has won such an exchange in these turns
abbrev pub WinsIn : Op → ℕ → List Turn → Type 0
WinsIn op w turns = list_any (λ t. (t.worker == w) && wins op t.event t.outcome) turns ≡ true

-- before an insert returns true its worker has won a link, and before a delete returns true it has
-- won a flag
abbrev pub TrueAnswersHaveWon : List Turn → Type 0
TrueAnswersHaveWon turns = (before since : List Turn) (w : ℕ) (c : Called)
    → turns ≡ before ++ answer_turn w true ∷ since → call_begun w before ≡ Some c
    → (c.op ≡ Has) ⊎ WinsIn c.op w before

-- the logs in the views of all seats are the parts of these turns, and what each seat has seen is a
-- beginning of them; the turns lead from the words of the empty tree to these words, have the
-- headline, and are a history of one plain set. If the table has slots, as many words come after
-- those of the tree: the values. A table without slots has none
pub record IsOfTurnsSoFar (L : Layout) (s : State Unit View) : Type 0 where
  pub turns : List Turn
  pub shown : (i : ℕ) (v : View) → get_elem? s.views i ≡ some v → IsShown L turns v
  pub lags : (i : ℕ) (v : View) → get_elem? s.views i ≡ some v → Extends turns v.past
  pub values : List ℕ
  pub count : length values ≡ length s.homes
  pub written : s.words ≡ words_of L (words_after L turns) ++ values
  pub headline : Headline L turns
  pub plain_set : HasHistory L turns

-- at every moment at which the rule of the table holds there are such turns, whatever the threads
-- have done
abbrev pub EachMomentIsOfTurns : Type 0
EachMomentIsOfTurns = (L : Layout) (s : State Unit View) → Kept L s → IsOfTurnsSoFar L s

-- ---- what a worker has seen

-- the turns that a worker has seen are by the tree's workers, have the headline and are a history
-- of one plain set; the worker's log is its part of them
pub record HasSeenTurns (v : View) : Type 0 where
  pub own : part_of v.number v.past ≡ v.log
  pub workers : AreOfWorkers v.layout v.past
  pub won : TrueAnswersHaveWon v.past
  pub headline : Headline v.layout v.past
  pub plain_set : HasHistory v.layout v.past

-- one of them freed the node, and each worker that was pinned when the node was cut off has
-- unpinned since (Fraser, section 5.2.3)
pub record IsFreedInGrace (v : View) (n : NodeId) : Type 0 where
  pub freed : Contains (freed_by v.past) n
  pub left : ReadersHaveLeft v.past n
