-- A worker's epochs and its call, by its pass's log.
use Rattle.std.specs.Prelude.{◌≡◌, ◌⊎◌, ℕ, false, [], Option, Some, None, IsSome}
use Rattle.nm_model.specs.declared.knowledge.Brief.{Brief}
use Rattle.nm_model.specs.declared.arrivals.Call.{Call}
use Rattle.nm_model.specs.Learning.{rooted}
use Rattle.nm_model.specs.Searches.{Search, idle}
use Rattle.nm_model.specs.Walks.{search_after}
use Rattle.nm_steps.specs.Rules.{knowledge}
use Rattle.nm_steps.specs.Steps.{PassView, Continues}

-- a worker's epochs
abbrev pub epochs : PassView → Brief
epochs p = (knowledge p.view).brief

-- what the worker has found and changed for its call
abbrev pub search : PassView → Search
search p = search_after idle p.view.log

-- a call that has only begun
abbrev pub begun_for : Option Call → Search
begun_for call = record {
  call = call;
  linked = false;
  swapped = false;
  flagged = None;
  cut = false;
  walks = [];
  later = [];
}

-- the worker is not pinned and announces nothing
pub record IsUnpinned (p : PassView) : Type 0 where
  pub unpinned : (epochs p).pin ≡ None
  pub silent : (epochs p).announcement ≡ None

-- the worker is not pinned and announces nothing, no cut of it waits for a label, and it has no
-- call
pub record IsResting (p : PassView) : Type 0 where
  pub unpinned : (epochs p).pin ≡ None
  pub silent : (epochs p).announcement ≡ None
  pub labelled : (epochs p).unlabelled ≡ false
  pub idle : search p ≡ idle

-- the worker is pinned at e, the epoch that it announces and read last, for a call that has only
-- begun
pub record IsPinnedAt (e : ℕ) (call : Option Call) (p : PassView) : Type 0 where
  pub seen : (epochs p).seen ≡ Some e
  pub announcement : (epochs p).announcement ≡ Some e
  pub pin : (epochs p).pin ≡ Some e
  pub labelled : (epochs p).unlabelled ≡ false
  pub begun : search p ≡ begun_for call
  pub known : (knowledge p.view).known ≡ rooted

-- the worker may announce the epoch that it read last, and try to pin it
pub record IsTrying (p : PassView) : Type 0 where
  pub seen : IsSome (epochs p).seen
  pub unpinned : (epochs p).pin ≡ None
  pub labelled : (epochs p).unlabelled ≡ false
  pub idle : search p ≡ idle

-- the worker announces a and is not pinned, no cut of it waits for a label, and it has no call
pub record HasAnnounced (a : ℕ) (p : PassView) : Type 0 where
  pub announcement : (epochs p).announcement ≡ Some a
  pub unpinned : (epochs p).pin ≡ None
  pub labelled : (epochs p).unlabelled ≡ false
  pub idle : search p ≡ idle

-- the worker is pinned, or announces nothing: it is not in the middle of a pin
abbrev pub IsSettled : PassView → Type 0
IsSettled p = IsSome (epochs p).pin ⊎ ((epochs p).announcement ≡ None)

-- the worker's announcement, its pin, its call, and what it knows of nodes are unchanged
pub record Stays (p q : PassView) : Type 0 where
  pub announcement : (epochs q).announcement ≡ (epochs p).announcement
  pub pin : (epochs q).pin ≡ (epochs p).pin
  pub search : search q ≡ search p
  pub known : (knowledge q.view).known ≡ (knowledge p.view).known

-- no cut waits for its label. If the worker was settled, its announcement, its pin, its call, and
-- what it knows of nodes are unchanged
pub record Settles (p q : PassView) : Type 0 where
  pub labelled : (epochs q).unlabelled ≡ false
  pub stays : IsSettled p → Stays p q

-- the worker's private slots are unchanged, and so are the ledgers that it holds, if no cut waited
-- for its label
pub record KeepsHands (p q : PassView) : Type 0 where
  pub private : (knowledge q.view).drafts ≡ (knowledge p.view).drafts
  pub labelled : (epochs p).unlabelled ≡ false → (epochs q).unlabelled ≡ false
  pub ledgers : (epochs p).unlabelled ≡ false
      → (knowledge q.view).ledgers ≡ (knowledge p.view).ledgers

-- after looks at the epoch and at other workers the pass continues: settled if it was, and with its
-- private slots and ledgers
pub record GoesOnSettled (p q : PassView) : Type 0 where
  pub on : Continues p q
  pub settles : Settles p q
  pub hands : KeepsHands p q
