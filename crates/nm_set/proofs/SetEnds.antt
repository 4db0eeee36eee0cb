-- A set that is closed, or left open, by what its tree has told.
use Rattle.std.proofs.Common.{◌≡◌, ◌∙◌, ◌+◌, ◌≤◌, ℕ, false, true, inr, List, [], ◌∷◌, ◌++◌, append-nil, length, length-append, map, refl, sym, ap, subst, arith}
use Rattle.std.specs.Prelude.{Result, Ok, Err, IfOk, IfErr}
use Rattle.nm_edge.specs.declared.placement.Fit.{Fit}
use Rattle.nm_steps.specs.Steps.{TreeView}
use Rattle.nm_steps.specs.Values.{HasValues}
use Rattle.nm_tree.specs.declared.closing.CloseReason.{CloseReason}
use Rattle.nm_tree.specs.declared.closing.CloseReason.TheVariants as because
use Rattle.nm_tree.specs.declared.closing.Ended.{Ended}
use Rattle.nm_tree.specs.declared.closing.Report.{Report}
use Rattle.nm_tree.specs.declared.map_closing.MapReport.{MapReport}
use Rattle.nm_tree.specs.Closing.{AreAllOf, IsCloseReason, SaysClosed}
use Rattle.nm_tree.specs.MapReports.{EndsMap, bare_in, value_in}
use Rattle.nm_tree.specs.Workers.{WorkerView}
use Rattle.nm_tree.proofs.ClosedMaps.{map_said}
use Rattle.nm_set.specs.declared.home.Site.{Site}
use Rattle.nm_set.specs.declared.set.CloseError.{CloseError}
use Rattle.nm_set.specs.declared.set.State.{State}
use Rattle.nm_set.specs.declared.set.State.TheVariants.{Open, Closing}
use Rattle.nm_set.specs.Seats.{AreOwn, BeginsWith, IsOwn, MemberView, SetView}
use Rattle.nm_set.specs.Ends.{EndsMapSet, HasGathered, IsLeftOpen, SaysEnded, SaysMapEnded, set_of}
use Rattle.nm_set.specs.States.{MayGather, closing_set, open_set, room_for_one, site_of, standing_of}

-- ---- workers of a tree

pub own_all : (b : TreeView) (ws : List WorkerView) → AreOwn b ws → AreAllOf b ws
own_all b [] are = tt
own_all b (w ∷ ws) are = (are.0.own, own_all b ws are.1)

-- and one more at the end
pub own_and : (b : TreeView) (ws : List WorkerView) (w : WorkerView) → AreOwn b ws → IsOwn b w → AreOwn b (ws ++ w ∷ [])
own_and b [] w are own = (own, tt)
own_and b (u ∷ ws) w are own = (are.0, own_and b ws w are.1 own)

-- ---- a set

-- the tree of a set
pub tree_of : (s : State) (kept : List WorkerView) → (standing_of s kept).tree ≡ (site_of s).tree
tree_of (Open home) kept = refl
tree_of (Closing site) kept = refl

-- with one that was kept there is room still
pub room_behind : (state : State) (kept : List WorkerView) (w : WorkerView) (room : ℕ)
    → length kept + room_for_one state ≤ room → MayGather state (kept ++ w ∷ []) room
room_behind (Open home) kept w room enough = inr (let size = length-append kept (w ∷ []) in omega (arith, size, enough))
room_behind (Closing site) kept w room enough = tt

-- how the workers that were gathered come from the set's
pub record Gathers (s : SetView) (site : Site) (all : List WorkerView) : Type 0 where
  pub tree : s.tree ≡ site.tree
  pub fit : s.fit ≡ site.fit
  pub home : List WorkerView
  pub are : all ≡ s.kept ++ home
  pub none : s.closing ≡ true → home ≡ []
  pub own : AreOwn site.tree all

pub ended : (s : SetView) (site : Site) (all : List WorkerView) → Gathers s site all → (r : Report)
    → SaysClosed site.tree all r.queues.items r.keys.items r.free r.reached → SaysEnded s r
ended s site all g r says =
    let C : List WorkerView → Type 0 = λ ws. SaysClosed site.tree ws r.queues.items r.keys.items r.free r.reached in
    let D : TreeView → Type 0 = λ b. SaysClosed b (s.kept ++ g.home) r.queues.items r.keys.items r.free r.reached in
    record { home = g.home; none = g.none; says = subst D (sym g.tree) (subst C g.are says) }

-- the same of a map
pub map_ended : (s : SetView) (site : Site) (all : List WorkerView) → Gathers s site all → (e : Ended)
    → EndsMap site.tree all e.report.queues.items e.report.keys.items e.leaves.items e.words e.layout e.report.free
    e.report.reached → EndsMapSet s e
map_ended s site all g e ends =
    let C : List WorkerView → Type 0 = λ ws. EndsMap site.tree ws e.report.queues.items e.report.keys.items
    e.leaves.items e.words e.layout e.report.free e.report.reached in
    let D : TreeView → Type 0 = λ b. EndsMap b (s.kept ++ g.home) e.report.queues.items e.report.keys.items
    e.leaves.items e.words e.layout e.report.free e.report.reached in
    record { home = g.home; none = g.none; ends = subst D (sym g.tree) (subst C g.are ends) }

-- the report of a map
pub map_said_ended : (s : SetView) (e : Ended) (r : MapReport) → r.report ≡ e.report
    → r.values.keyed ≡ map (value_in e.words.values) e.leaves.items → r.values.slots ≡ e.words.values
    → r.values.bare ≡ bare_in e.layout e.words.core → EndsMapSet s e → SaysMapEnded s r
map_said_ended s e r report keyed slots bare ends = record {
  home = ends.home;
  none = ends.none;
  says = map_said s.tree
      (s.kept ++ ends.home) e r report keyed slots bare ends.ends;
}

-- it keeps them, where its tree was not closed
pub kept_all : (s : SetView) (site : Site) (all : List WorkerView) → Gathers s site all → (t : SetView)
    → t ≡ closing_set site all → (x : CloseReason) → IsCloseReason site.tree all x → HasGathered s x t
kept_all s site all g t is x so =
    let tree : t.tree ≡ site.tree = ap (λ (u : SetView). u.tree) is in
    let kept : t.kept ≡ all = ap (λ (u : SetView). u.kept) is in
    let P : TreeView → Type 0 = λ b. IsCloseReason b t.kept x in
    let Q : List WorkerView → Type 0 = λ ws. IsCloseReason site.tree ws x in
    record {
      tree = tree ∙ sym g.tree;
      fit = ap (λ (u : SetView). u.fit) is ∙ sym g.fit;
      closing = ap (λ (u : SetView). u.closing) is;
      home = g.home;
      kept = kept ∙ g.are;
      none = g.none;
      reason = subst P (sym tree) (subst Q (sym kept) so);
    }

pub left : (s : SetView) (site : Site) (all : List WorkerView) → Gathers s site all → (t : SetView)
    → t ≡ closing_set site all → (why : CloseReason) → IsCloseReason site.tree all why → IsLeftOpen s why t
left s site all g t is because.Attached reason = absurd reason
left s site all g t is (because.NotAll given made) reason = kept_all s site all g t is (because.NotAll given made)
    reason
left s site all g t is because.NoMemory reason = kept_all s site all g t is because.NoMemory reason

-- of a set whose workers had been gathered before
pub had_gathered : (s : SetView) (site : Site) (kept : List WorkerView) → closing_set site kept ≡ s
    → AreOwn site.tree kept → Gathers s site kept
had_gathered s site kept is own = record {
  tree = ap (λ (u : SetView). u.tree) (sym is);
  fit = ap (λ (u : SetView). u.fit) (sym is);
  home = [];
  are = ap (λ (u : SetView). u.kept) is ∙ sym (append-nil s.kept);
  none = λ so. refl;
  own = own;
}

-- of an open set
pub gathered_now : (s : SetView) (site : Site) (kept all : List WorkerView) → open_set site kept ≡ s
    → BeginsWith kept all → AreOwn site.tree all → Gathers s site all
gathered_now s site kept all is (home, are) own = record {
  tree = ap (λ (u : SetView). u.tree) (sym is);
  fit = ap (λ (u : SetView). u.fit) (sym is);
  home = home;
  are = are ∙ ap (λ (u : SetView). u.kept ++ home) is;
  none = λ so. absurd (differ (ap (λ (u : SetView). u.closing) is ∙ so));
  own = own;
}
  where
    differ : false ≡ true → ⊥
    differ e = cc

-- of one that keeps a member's worker alone
pub gathered_with : (m : MemberView) (site : Site) (w : WorkerView) (all : List WorkerView) (t : SetView)
    → site.tree ≡ m.tree → m.worker.fit ≡ site.fit → w ≡ m.worker → BeginsWith (w ∷ []) all
    → t ≡ closing_set site all → AreOwn t.tree t.kept
    → Gathers (set_of m) site all
gathered_with m site w all t tree fit mine begins is own =
    gathered_now (set_of m) site (m.worker ∷ []) all (sites ∙ fits)
    (subst (λ (x : WorkerView). BeginsWith (x ∷ []) all) mine begins)
    (subst (λ (x : SetView). AreOwn x.tree x.kept) is own)
  where
    sites : open_set site (m.worker ∷ []) ≡ record {
      tree = m.tree;
      fit = site.fit;
      closing = false;
      kept = m.worker
          ∷ [];
    }
    sites = ap (λ (b : TreeView). record { tree = b; fit = site.fit; closing = false; kept = m.worker ∷ [] }) tree

    fits : ◌≡◌ {A = SetView} (record { tree = m.tree; fit = site.fit; closing = false; kept = m.worker ∷ [] })
        (set_of m)
    fits = ap (λ (f : Fit). record { tree = m.tree; fit = f; closing = false; kept = m.worker ∷ [] }) (sym fit)

-- and of one that is as it was
pub as_before : (s t : SetView) (site : Site) (kept : List WorkerView) → open_set site kept ≡ s
    → t ≡ open_set site kept → (why : CloseReason) → why ≡ because.Attached → IsLeftOpen s why t
as_before s t site kept is same why e = subst (λ (w : CloseReason). IsLeftOpen s w t) (sym e)
    (ap (λ (u : SetView). u.closing) (sym is), same ∙ is)

-- ---- from one clause to another

pub if_ok : {X E : Type 0} (P Q : X → Type 0) (r : Result X E) → IfOk r P → ((x : X) → P x → Q x) → IfOk r Q
if_ok P Q (Ok x) p f = f x p
if_ok P Q (Err e) p f = tt

pub if_err : {X E : Type 0} (P Q R : E → Type 0) (r : Result X E) → IfErr r P → IfErr r Q
    → ((e : E) → P e → Q e → R e) → IfErr r R
if_err P Q R (Ok x) p q f = tt
if_err P Q R (Err e) p q f = f e p q

-- a close that has such workers
module _ (s : SetView) (site : Site) (all : List WorkerView) (g : Gathers s site all)
    (told : Result Ended (CloseError SetView)) where
  pub closes : IfOk told
      (λ r. SaysClosed site.tree all r.report.queues.items r.report.keys.items r.report.free r.report.reached)
      → IfOk told (λ r. SaysEnded s r.report)
  closes says =
      if_ok (λ (r : Ended). SaysClosed site.tree all r.report.queues.items r.report.keys.items r.report.free
      r.report.reached) (λ (r : Ended). SaysEnded s r.report) told says (λ r is. ended s site all g r.report is)

  -- with the values of a map
  pub hands_out : (HasValues site.tree → IfOk told
      (λ r. EndsMap site.tree all r.report.queues.items r.report.keys.items r.leaves.items r.words r.layout
      r.report.free r.report.reached)) → HasValues s.tree → IfOk told (EndsMapSet s)
  hands_out values has =
      if_ok (λ (r : Ended). EndsMap site.tree all r.report.queues.items r.report.keys.items r.leaves.items r.words
      r.layout r.report.free r.report.reached) (EndsMapSet s) told (values (subst HasValues g.tree has))
      (map_ended s site all g)

  pub refuses : IfErr told (λ e. e.set ≡ closing_set site all)
      → IfErr told (λ e. IsCloseReason site.tree all e.reason) → IfErr told (λ e. IsLeftOpen s e.reason e.set)
  refuses refused reason =
      if_err (λ (e : CloseError SetView). e.set ≡ closing_set site all)
      (λ (e : CloseError SetView). IsCloseReason site.tree all e.reason)
      (λ (e : CloseError SetView). IsLeftOpen s e.reason e.set) told refused reason
      (λ e is why. left s site all g e.set is e.reason why)
