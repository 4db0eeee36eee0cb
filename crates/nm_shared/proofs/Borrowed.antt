-- A member that was borrowed, asked once, and given back.
use Rattle.std.proofs.Common.{◌≡◌, ◌∙◌, ℕ, suc, ◌+◌, ◌<◌, Bool, true, false, List, [], ◌∷◌, ◌++◌, length, inl, inr, sym, ap, subst, arith, refl}
use Rattle.std.specs.Prelude.{Option, Some, None, Result, Ok, Err}
use Rattle.atomic_table.specs.Seated.{TableId}
use Rattle.nm_calls.specs.declared.fault.CallFault.{CallFault}
use Rattle.nm_calls.specs.declared.many.Query.{Query}
use Rattle.nm_calls.specs.declared.scanning.Scanned.{Scanned}
use Rattle.nm_edge.specs.Layouts.{Layout}
use Rattle.nm_edge.specs.declared.edge.Side.{Side}
use Rattle.nm_model.specs.declared.event.Event.TheVariants.{Leave}
use Rattle.nm_model.specs.declared.event.Op.{Op}
use Rattle.nm_model.specs.declared.event.Op.TheVariants.{Delete}
use Rattle.nm_model.specs.declared.reply.Reply.TheVariants.{Departed}
use Rattle.nm_steps.specs.declared.view.View.{View}
use Rattle.nm_steps.specs.Steps.{TreeView, PassView, Notice, IsSamePass, HasSeenAllOf}
use Rattle.nm_steps.proofs.Seeing.{same_by_step, same_then, seen_itself, seen_through}
use Rattle.nm_puts.specs.declared.putting.Condition.{Condition}
use Rattle.nm_puts.specs.declared.putting.PutOutcome.{PutOutcome}
use Rattle.nm_set.specs.declared.managed.Options.{Options}
use Rattle.nm_epoch.specs.declared.handing.HandedOut.{HandedOut}
use Rattle.nm_set.specs.Asked.{AskedToPin}
use Rattle.nm_set.specs.Managed.{SaysManaged}
use Rattle.nm_set.specs.MapPuts.{SaysManagedPut}
use Rattle.nm_set.specs.MapRemoves.{SaysRemoveIf}
use Rattle.nm_set.specs.Maps.{LeavesReclaim, SaysChange, SaysGet}
use Rattle.nm_set.specs.InTurns.{AskedMany}
use Rattle.nm_set.specs.NextKeys.{AskedNext, AskedPrev}
use Rattle.nm_set.specs.Popping.{SaysManagedPopOf}
use Rattle.nm_set.specs.Scanning.{AskedScan}
use Rattle.nm_set.specs.Seats.{MemberView, SetView, IsNewMember}
use Rattle.nm_tree.specs.declared.removing.RemoveOutcome.{RemoveOutcome}
use Rattle.nm_tree.specs.declared.removing.RemoveOutcome.TheVariants as outcome
use Rattle.nm_tree.specs.declared.fault.PinFault.{PinFault}
use Rattle.nm_tree.specs.declared.fault.PinFault.TheVariants as pinning
use Rattle.nm_tree.specs.Answers.{HasPinned}
use Rattle.nm_tree.specs.Workers.{WorkerView}
use Rattle.nm_lending.specs.declared.knowing.Visit.{Visit}
use Rattle.nm_lending.specs.Visits.{AreSeated}
use Rattle.nm_lending.specs.Views.{LoanView, NoneIsLent}
use Rattle.nm_lending.specs.Views as lending
use Rattle.nm_shared.specs.SharedMaps.{AsksIfPinned, AsksUnderPin, GetsMany}
use Rattle.nm_shared.specs.Sharing.{SharedView, CallerView, NoneWasFree, Sits, IsBorrowed, MayComeBack, SitsIn, Visited, SaysShared, goes_on, note_of}

-- ---- what each managed call keeps

pub record Keeps (w z : WorkerView) : Type 0 where
  same : IsSamePass w.pass z.pass
  past : HasSeenAllOf z.pass w.pass
  free : w.held ≡ None → z.held ≡ None

pub kept_itself : (w z : WorkerView) → z ≡ w → Keeps w z
kept_itself w z same = subst (λ (y : WorkerView). Keeps w y) (sym same)
    (record { same = refl; past = seen_itself w.pass; free = λ is. is })

pub keeps_on : (w y z : WorkerView) → Keeps w y → Keeps y z → Keeps w z
keeps_on w y z one two = record {
  same = same_then w.pass y.pass z.pass one.same two.same;
  past = seen_through w.pass y.pass z.pass one.past two.past;
  free = λ is. two.free (one.free is);
}

pub managed_keeps : (op : Op) (b : TreeView) (h : Options) (k : ℕ) (w z : WorkerView) (r : Result Bool CallFault)
    → SaysManaged op b h k w z r → Keeps w z
managed_keeps op b h k w z r (inl (held, is, same)) = kept_itself w z same
managed_keeps op b h k w z r (inr (free, t)) = record
    { same = t.answers.on.same; past = t.answers.on.past; free = λ none'. t.answers.on.held }

pub pop_keeps : (Among : ℕ → Type 0) (Before : ℕ → ℕ → Type 0) (b : TreeView) (h : Options) (w z : WorkerView)
    (r : Result (Option ℕ) CallFault) → SaysManagedPopOf Among Before b h w z r → Keeps w z
pop_keeps Among Before b h w z r (inl (held, is, same)) = kept_itself w z same
pop_keeps Among Before b h w z r (inr (free, t)) =
    record { same = t.on.same; past = t.on.past; free = λ none'. t.on.held }

pub next_keeps : (L : Layout) (t k : ℕ) (w z : WorkerView) (r : Result (Option ℕ) CallFault)
    → AskedNext L t k w z r → Keeps w z
next_keeps L t k w z r (inl (held, is, same)) = kept_itself w z same
next_keeps L t k w z r (inr (free, l)) = record { same = l.same; past = l.past; free = λ none'. l.held }

pub prev_keeps : (L : Layout) (t k : ℕ) (w z : WorkerView) (r : Result (Option ℕ) CallFault)
    → AskedPrev L t k w z r → Keeps w z
prev_keeps L t k w z r (inl (held, is, same)) = kept_itself w z same
prev_keeps L t k w z r (inr (free, l)) = record { same = l.same; past = l.past; free = λ none'. l.held }

pub many_keeps : (L : Layout) (t : ℕ) (old new : List Query) (w z : WorkerView) (r : Result (Unit {0}) CallFault)
    → AskedMany L t old new w z r → Keeps w z
many_keeps L t old new w z r (inl (held, is, same, queries)) = kept_itself w z same
many_keeps L t old new w z r (inr (free, l)) = record { same = l.same; past = l.past; free = λ none'. l.held }

pub scan_keeps : (side : Side) (L : Layout) (t from to : ℕ) (old new : List ℕ) (w z : WorkerView)
    (r : Result Scanned CallFault) → AskedScan side L t from to old new w z r → Keeps w z
scan_keeps side L t from to old new w z r (inl (held, is, same, out)) = kept_itself w z same
scan_keeps side L t from to old new w z r (inr (free, l)) =
    record { same = l.same; past = l.past; free = λ none'. l.held }

pub get_keeps : (b : TreeView) (h : Options) (k : ℕ) (w z : WorkerView) (r : Result (Option ℕ) CallFault)
    → SaysGet b h k w z r → Keeps w z
get_keeps b h k w z r (inl (held, is, same)) = kept_itself w z same
get_keeps b h k w z r (inr (free, t)) = record
    { same = t.answers.on.same; past = t.answers.on.past; free = λ none'. t.answers.on.held }

-- a worker that was not pinned is pinned by nobody
not_held : (t : ℕ) (w p : WorkerView) (f : PinFault) → w.held ≡ None → HasPinned t w p (Err f) → p.held ≡ None
not_held t w p (pinning.Moved epoch) free did = did.1
not_held t w p pinning.Pending free did = ap (λ (x : WorkerView). x.held) did.1 ∙ free
not_held t w p pinning.Pinned free did = absurd did

asks_keep : (L : Layout) (old new : List Query) (p z : WorkerView) (r : Result (Unit {0}) CallFault)
    → AsksUnderPin L old new p z r → Keeps p z
asks_keep L old new p z r a = record {
  same = same_then p.pass a.asked.pass z.pass a.gets.same
      (same_by_step a.asked.pass z.pass Leave Departed a.unpins.step);
  past = seen_through p.pass a.asked.pass z.pass a.gets.past a.unpins.past;
  free = λ none'. a.unpins.held;
}

pub get_many_keeps : (L : Layout) (t : ℕ) (old new : List Query) (w z : WorkerView) (r : Result (Unit {0}) CallFault)
    → GetsMany L t old new w z r → Keeps w z
get_many_keeps L t old new w z r g = by g.pin g.pins g.asks
  where
    by : (x : Result ℕ PinFault) → AskedToPin t w g.pinned x → AsksIfPinned L old new g.pinned z x r → Keeps w z
    by (Ok e) (inl held) asks = absurd (let is = held.1 in cc)
    by (Ok e) (inr (free, l)) asks =
        let rest : Keeps g.pinned z = asks_keep L old new g.pinned z r asks in
        record {
          same = same_then w.pass g.pinned.pass z.pass l.same rest.same;
          past = seen_through w.pass g.pinned.pass z.pass l.past rest.past;
          free = λ none'. asks.unpins.held;
        }
    by (Err f) (inl (held, is, same)) asks = kept_itself w z (asks.1 ∙ same)
    by (Err f) (inr (free, l)) asks = subst (λ (y : WorkerView). Keeps w y) (sym asks.1)
        (record { same = l.same; past = l.past; free = λ none'. not_held t w g.pinned f free l.did })

pub change_keeps : (op : Op) (b : TreeView) (h : Options) (k : ℕ) (w z : WorkerView) (r : Result Bool CallFault)
    → SaysChange op b h k w z r → Keeps w z
change_keeps op b h k w z r (inl (held, is, same)) = kept_itself w z same
change_keeps op b h k w z r (inr (free, t)) = record
    { same = t.answers.on.same; past = t.answers.on.past; free = λ none'. t.answers.on.held }

pub put_keeps : (b : TreeView) (h : Options) (when : Condition) (k v : ℕ) (w z : WorkerView)
    (r : Result PutOutcome CallFault) → SaysManagedPut b h when k v w z r → Keeps w z
put_keeps b h when k v w z r (inl (held, is, same)) = kept_itself w z same
put_keeps b h when k v w z r (inr (free, t)) = record
    { same = t.answers.on.same; past = t.answers.on.past; free = λ none'. t.answers.on.held }

pub remove_if_keeps : (b : TreeView) (h : Options) (k v : ℕ) (w z : WorkerView) (r : Result RemoveOutcome CallFault)
    → SaysRemoveIf b h k v w z r → Keeps w z
remove_if_keeps b h k v w z (Ok outcome.Removed) s = change_keeps Delete b h k w z (Ok true) s.says
remove_if_keeps b h k v w z (Ok outcome.Absent) s = change_keeps Delete b h k w z (Ok false) s.says
remove_if_keeps b h k v w z (Ok (outcome.Other found)) s = record {
  same = s.other.finds.on.same;
  past = s.other.finds.on.past;
  free = λ none'. s.other.finds.on.held;
}
remove_if_keeps b h k v w z (Err f) s = change_keeps Delete b h k w z (Err f) s.says

pub reclaim_keeps : (L : Layout) (old new : List ℕ) (w z : WorkerView) (behind : Option ℕ) (handed : HandedOut)
    → LeavesReclaim L old new w z behind handed → Keeps w z
reclaim_keeps L old new w z behind handed t =
    let one : Keeps w t.once =
    record { same = t.advanced.same; past = t.advanced.past; free = λ is. t.advanced.place.1 ∙ is } in
    let two : Keeps t.once t.twice =
    record { same = t.again.same; past = t.again.past; free = λ is. t.again.place.1 ∙ is } in
    let three : Keeps t.twice z =
    record { same = t.hands.leaves.same; past = t.hands.leaves.past; free = λ is. t.hands.leaves.place.1 ∙ is } in
    keeps_on w t.twice z (keeps_on w t.once t.twice one two) three

-- ---- a member that was borrowed

same_member : (x y : MemberView) → Some x ≡ Some y → x ≡ y
same_member x y e = cc

module _ (s : SharedView) (c : CallerView) (m n : MemberView) (l : LoanView MemberView SetView)
    (lent : IsBorrowed s c m l) (tree : n.tree ≡ m.tree) (keeps : Keeps m.worker n.worker) where
  same_pass : IsSamePass lent.was.worker.pass n.worker.pass
  same_pass = same_then lent.was.worker.pass m.worker.pass n.worker.pass lent.heard.same keeps.same

  free : n.worker.held ≡ None
  free = keeps.free (ap (λ (w : WorkerView). w.held) lent.heard.rest ∙ lent.here.free)

  sits : Sits s.set l.seat n
  sits = record {
    tree = tree ∙ (lent.tree ∙ lent.here.tree);
    layout = ap (λ (p : PassView). p.view.layout) same_pass ∙ lent.here.layout;
    number = ap (λ (p : PassView). p.view.number) same_pass ∙ lent.here.number;
    free = free;
  }

  went_on : goes_on s.set lent.was n
  went_on = record {
    same = same_pass;
    past = seen_through lent.was.worker.pass m.worker.pass n.worker.pass lent.heard.past keeps.past;
  }

  pub may_come_back : MayComeBack s l n
  may_come_back = record {
    table = lent.table;
    site = lent.site;
    sits = sits;
    goes = λ x is. subst (λ (y : MemberView). goes_on s.set y n) (same_member lent.was x (sym lent.taken ∙ is)) went_on;
  }

  pub visited : (Says : WorkerView → WorkerView → Type 0) (now : CallerView) → Says m.worker n.worker
      → ((x : MemberView) → l.taken ≡ Some x → now.visits ≡ l.visits ++ record
      { seat = l.seat; turn = l.turn; was = x; left = n } ∷ [])
      → now.note ≡ Some (note_of n) → Visited Says s c now
  visited Says now says back note =
      let visit : Visit MemberView = record { seat = l.seat; turn = l.turn; was = lent.was; left = n } in
      record {
        visit = visit;
        begun = m.worker;
        more = back lent.was lent.taken ∙ ap (λ (ds : List (Visit MemberView)). ds ++ visit ∷ []) lent.visits;
        found = lent.here;
        left = sits;
        heard = lent.heard;
        says = says;
        note = note;
      }

-- a call of a member says the same of the set's tree
tree_is : (s : SharedView) (c : CallerView) (m : MemberView) (l : LoanView MemberView SetView) → IsBorrowed s c m l
    → m.tree ≡ s.set.tree
tree_is s c m l lent = lent.tree ∙ lent.here.tree

pub says_visited : (Says : TreeView → WorkerView → WorkerView → Type 0) (s : SharedView) (c now : CallerView)
    (m n : MemberView) (l : LoanView MemberView SetView) → IsBorrowed s c m l → n.tree ≡ m.tree
    → Keeps m.worker n.worker → Says m.tree m.worker n.worker
    → ((x : MemberView) → l.taken ≡ Some x → now.visits ≡ l.visits ++ record
    { seat = l.seat; turn = l.turn; was = x; left = n } ∷ [])
    → now.note ≡ Some (note_of n) → Visited (Says s.set.tree) s c now
says_visited Says s c now m n l lent tree keeps says back note =
    visited s c m n l lent tree keeps (Says s.set.tree) now
    (subst (λ (b : TreeView). Says b m.worker n.worker) (tree_is s c m l lent) says) back note

pub says_shared : (op : Op) (h : Options) (k : ℕ) (r : Result Bool CallFault) (s : SharedView) (c now : CallerView)
    (m n : MemberView)
    (l : LoanView MemberView SetView) → IsBorrowed s c m l → n.tree ≡ m.tree
    → SaysManaged op m.tree h k m.worker n.worker r
    → ((x : MemberView) → l.taken ≡ Some x → now.visits ≡ l.visits ++ record
    { seat = l.seat; turn = l.turn; was = x; left = n } ∷ [])
    → now.note ≡ Some (note_of n) → SaysShared op s h k c now r
says_shared op h k r s c now m n l lent tree says =
    says_visited (λ b w z. SaysManaged op b h k w z r) s c now m n l lent tree
    (managed_keeps op m.tree h k m.worker n.worker r says) says

-- ---- the same of a member in its block, which is the one that was borrowed

module _ (s : SharedView) (c : CallerView) (x m n : MemberView) (l : LoanView MemberView SetView) (same : m ≡ x)
    (lent : IsBorrowed s c x l) (tree : n.tree ≡ m.tree) (keeps : Keeps m.worker n.worker) where
  here : IsBorrowed s c m l
  here = subst (λ (y : MemberView). IsBorrowed s c y l) (sym same) lent

  pub back_after : MayComeBack s l n
  back_after = may_come_back s c m n l here tree keeps

  pub said_by : (Says : TreeView → WorkerView → WorkerView → Type 0) (now : CallerView)
      → Says m.tree m.worker n.worker
      → ((y : MemberView) → l.taken ≡ Some y → now.visits ≡ l.visits ++ record
      { seat = l.seat; turn = l.turn; was = y; left = n } ∷ [])
      → now.note ≡ Some (note_of n) → Visited (Says s.set.tree) s c now
  said_by Says now says back note = says_visited Says s c now m n l here tree keeps says back note

-- ---- new members

-- a new member may sit on its seat
pub new_sits : (s : SetView) (i : ℕ) (m : MemberView) → IsNewMember s.tree s.fit i m → Sits s i m
new_sits s i m is = record {
  tree = is.tree;
  layout = ap (λ (v : View). v.layout) is.new.1;
  number = ap (λ (v : View). v.number) is.new.1;
  free = is.new.3;
}

-- one more at the end
pub seated_and : (s : SetView) (i : ℕ) (ms : List (Option MemberView)) (n : ℕ) (m : MemberView)
    → n ≡ i + length ms → AreSeated SitsIn s i ms → Sits s n m → AreSeated SitsIn s i (ms ++ Some m ∷ [])
seated_and s i [] n m e are here =
    let at : n ≡ i = omega (arith, e) in
    (subst (λ (k : ℕ). Sits s k m) at here, tt)
seated_and s i (None ∷ ms) n m e are here = absurd are
seated_and s i (Some x ∷ ms) n m e are here = (are.0, seated_and s (suc i) ms n m (omega (arith, e)) are.1 here)

-- ---- no member was borrowed

-- what clauses see of a caller, by its visits and its note
abbrev caller_of : lending.CallerView MemberView SetView → Option Notice → CallerView
caller_of v n = record { table = v.table; site = v.site; visits = v.visits; note = n; looks = v.looks }

pub none_free : (s : SharedView) (b d : lending.CallerView MemberView SetView) (n : Option Notice) (was : CallerView)
    (t : TableId) → caller_of b n ≡ was → t ≡ s.table → NoneIsLent b (λ i. (i < t.words) × (i < 4294967295)) d
    → NoneWasFree s was (caller_of d n)
none_free s b d n was t is own none = record {
  looks = none.looks;
  same = ap (λ (v : lending.CallerView MemberView SetView). caller_of v n) none.more
      ∙ ap (λ (c : CallerView). record c { looks = c.looks ++ none.looks }) is;
  each = λ i less few. none.each i (subst (λ (z : TableId). i < z.words) (sym own) less, few);
}
