-- What is counted of a queue: where it stays right, and of the own one.
use Rattle.std.proofs.Common.{◌≡◌, ℕ, Bool, true, List, [], ◌∷◌, length, refl, sym, ap, ◌∙◌, subst, inl, inr}
use Rattle.std.specs.Prelude.{Option, Some, option_map, ◌==◌, if◌then◌else◌}
use Rattle.std.proofs.lemmas.Bool.{eq-eqb}
use Rattle.std.proofs.lemmas.Option.{same_Some}
use Rattle.nm_edge.specs.declared.node.NodeId.{NodeId}
use Rattle.nm_model.specs.declared.ledger.Ledger.{Ledger}
use Rattle.nm_model.specs.Ledgers.{held}
use Rattle.nm_model.specs.Walks.{Entry as LogEntry}
use Rattle.nm_steps.specs.declared.view.View.{View}
use Rattle.nm_steps.specs.Rules.{knowledge}
use Rattle.nm_steps.specs.Steps.{PassView, IsSamePass}
use Rattle.nm_epoch.specs.declared.collecting.HeldQueue.{HeldQueue}
use Rattle.nm_epoch.specs.Collecting.{IsQueueOf, capped}
use Rattle.nm_walks.specs.Cleanups.{HoldsCuts}
use Rattle.nm_walks.specs.WonCounts.{CountsWon, won_links, won_flags, won_splices}
use Rattle.nm_tree.specs.Workers.{IsCounted, AreCounted, HasOrigin, log_held_of, log_among, ledger_in}
use Rattle.nm_tree.proofs.HeldLedgers.{ledger_held}
use Rattle.nm_tree.proofs.Quiet.{Quiet, each_as_before}

-- ---- where counts stay right

-- two views tell the same of an origin: its log has won as much, and its ledger is the same one
pub record TellAlike (v u : View) (o : ℕ) : Type 0 where
  pub log : Quiet (log_held_of v o) (log_held_of u o)
  pub ledger : ledger_in u o ≡ ledger_in v o

pub counted_still : (v u : View) (h : HeldQueue) → TellAlike v u h.origin → IsCounted v h → IsCounted u h
counted_still v u h alike is = record {
  won = record {
    links = is.won.links ∙ ap capped (sym alike.log.links);
    flags = is.won.flags ∙ ap capped (sym alike.log.flags);
    splices = is.won.splices ∙ ap capped (sym alike.log.splices);
  };
  freed = is.freed ∙ ap (λ (l : Ledger). capped (length l.freed)) (sym alike.ledger);
}

pub all_counted_still : (v u : View) (hs : List HeldQueue) → ((o : ℕ) → HasOrigin o hs → TellAlike v u o)
    → AreCounted v hs → AreCounted u hs
all_counted_still v u [] alike are = tt
all_counted_still v u (h ∷ hs) alike are = (
  counted_still v u h (alike h.origin (inl refl)) are.0,
  all_counted_still
      v u hs (λ o has. alike o (inr has)) are.1,
)

-- nothing was won by the own log, and so by none
pub quiet_of : (p q : PassView) → IsSamePass p q → Quiet p.view.log q.view.log → (o : ℕ)
    → Quiet (log_held_of p.view o) (log_held_of q.view o)
quiet_of p q same own o = record {
  links = each_as_before won_links p q same own.links o;
  flags = each_as_before won_flags p q same own.flags o;
  splices = each_as_before won_splices p q same own.splices o;
}

-- ---- the own queue

own_log : (b : Bool) (x y : List LogEntry) → b ≡ true → (if b then x else y) ≡ x
own_log b x y is = let P : Bool → Type 0 = λ c. (if c then x else y) ≡ x in subst P (sym is) refl

-- the own log is that of the own number
pub log_of_own : (p : PassView) → log_held_of p.view p.view.number ≡ p.view.log
log_of_own p = own_log (p.view.number == p.view.number) p.view.log (log_among p.view.number p.view.others)
    (eq-eqb p.view.number p.view.number refl)

-- what was freed of the own origin is what its ledger tells
module _ (p : PassView) (h : HeldQueue) (own : h.origin ≡ p.view.number)
    (queue : IsQueueOf (knowledge p.view) p.view.number h.queue.items) where
  log_is : log_held_of p.view h.origin ≡ p.view.log
  log_is = ap (λ (o : ℕ). log_held_of p.view o) own ∙ log_of_own p

  freed_is : option_map (λ (ns : List NodeId). capped (length ns))
      (option_map (λ (l : Ledger). l.freed) (held (knowledge p.view).ledgers p.view.number))
      ≡ Some (capped (length (ledger_in p.view h.origin).freed))
  freed_is =
      ap (λ (l : Option Ledger). option_map (λ (ns : List NodeId). capped (length ns))
      (option_map (λ (x : Ledger). x.freed) l)) (ledger_held p.view p.view.number h.queue.items queue)
      ∙ ap (λ (o : ℕ). Some (capped (length (ledger_in p.view o).freed))) (sym own)

  pub holds_own : IsCounted p.view h → HoldsCuts p h
  holds_own is = record {
    own = own;
    queue = queue;
    counted = subst (λ (l : List LogEntry). CountsWon l h.counts)
        log_is is.won;
    freed = freed_is ∙ ap (λ (n : ℕ). Some n) (sym is.freed);
  }

  own_so : HoldsCuts p h → IsCounted p.view h
  own_so is = record {
    won = subst (λ (l : List LogEntry). CountsWon l h.counts) (sym log_is) is.counted;
    freed =
        same_Some _ _ (sym is.freed ∙ freed_is);
  }

pub own_counted : (p : PassView) (h : HeldQueue) → HoldsCuts p h → IsCounted p.view h
own_counted p h is = own_so p h is.own is.queue is
