-- Parts of a log in which nothing was won.
use Rattle.std.proofs.Common.{◌≡◌, inl, inr, ℕ, zero, suc, Bool, true, false, List, [], ◌∷◌, ◌++◌, refl, sym, ap, ◌∙◌, arith, subst}
use Rattle.std.specs.Prelude.{Option, Some, map, if◌then◌else◌, ◌==◌, Result, Ok, Err, IfOk, IfErr}
use Rattle.nm_edge.specs.Layouts.{Layout}
use Rattle.nm_model.specs.declared.event.Event.TheVariants as event
use Rattle.nm_model.specs.declared.event.Op.TheVariants.{Has}
use Rattle.nm_model.specs.declared.reply.Reply.{Reply}
use Rattle.nm_model.specs.declared.reply.Reply.TheVariants as reply
use Rattle.nm_model.specs.Walks.{Entry}
use Rattle.nm_steps.specs.Steps.{PassView, IsSamePass}
use Rattle.nm_epoch.specs.declared.answers.Advance.{Advance}
use Rattle.nm_epoch.specs.declared.answers.Advance.TheVariants as advance
use Rattle.nm_epoch.specs.declared.collecting.Entry.{Entry as Waiting}
use Rattle.nm_epoch.specs.Collecting.{freeing}
use Rattle.nm_epoch.specs.Scans.{LooksAt, AllLetPass, SightThenScans, IsAdvance}
use Rattle.nm_epoch.specs.Tries.{LostTries, IsPinnedBy, IsMoved}
use Rattle.nm_epoch.specs.Watches.{AllWatched, SightThenWatch}
use Rattle.nm_calls.specs.declared.fault.CallFault.{CallFault}
use Rattle.nm_calls.specs.Calls.{HasDid, HasMissed}
use Rattle.nm_walks.specs.WonCounts.{won_links, won_flags, won_splices}
use Rattle.nm_calls.specs.Won.{HasWon}
use Rattle.nm_walks.proofs.Adding.{Adds, adds_these, end_adds}
use Rattle.nm_calls.proofs.Adding.{adds_none, pin_adds, moved_adds, lost_walks_add}
use Rattle.nm_tree.specs.Workers.{log_among, log_held_of}

-- nothing was won between a log and a later one
pub record Quiet (old new : List Entry) : Type 0 where
  pub links : won_links new ≡ won_links old
  pub flags : won_flags new ≡ won_flags old
  pub splices : won_splices new ≡ won_splices old

pub quiet : {n : ℕ} (old new : List Entry) → Adds 0 0 0 n old new → Quiet old new
quiet old new a =
    let l = a.links in
    let f = a.flags in
    let s = a.splices in
    record { links = omega (arith, l); flags = omega (arith, f); splices = omega (arith, s) }

-- where neither a link nor a flag was won, and no splice
pub quiet_so : (old new : List Entry) → HasWon old new 0 0 → won_splices new ≡ won_splices old → Quiet old new
quiet_so old new won uncut =
    let l = won.links in
    let f = won.flags in
    record { links = omega (arith, l); flags = omega (arith, f); splices = uncut }

pub quiet_none : (old new : List Entry) → new ≡ old → Quiet old new
quiet_none old new is = quiet old new (adds_none old new is)

pub quiet_then : (old mid new : List Entry) → Quiet old mid → Quiet mid new → Quiet old new
quiet_then old mid new a b = record {
  links = b.links ∙ a.links;
  flags = b.flags ∙ a.flags;
  splices = b.splices
      ∙ a.splices;
}

-- ---- a look-up

pub looked_up : (L : Layout) (tries k : ℕ) (old new : List Entry) (b : Bool) → HasDid L tries k old new b
    → Quiet old new
looked_up L tries k old new b d =
    quiet_then old d.pinned new (quiet old d.pinned (pin_adds Has k tries old d.pinned d.epoch d.pin))
    (quiet_then d.pinned d.begun new (quiet d.pinned d.begun (lost_walks_add L k d.broken d.pinned d.begun d.lost))
    (quiet_then d.begun d.ended new (quiet d.begun d.ended
    (end_adds L k d.begun d.ended d.seek_record d.chain d.key d.walk))
    (quiet d.ended new (adds_these _ d.ended new d.leaves))))

pub missed : (L : Layout) (tries k : ℕ) (old new : List Entry) → HasMissed L tries k old new → Quiet old new
missed L zero k old new m = quiet_none old new m
missed L (suc t) k old new (inl moved) = quiet old new (moved_adds Has k (suc t) old new moved)
missed L (suc t) k old new (inr m) =
    quiet_then old m.0 new (quiet old m.0 (pin_adds Has k (suc t) old m.0 m.2 m.3))
    (quiet_then m.0 m.1 new (quiet m.0 m.1 (lost_walks_add L k (suc t) m.0 m.1 m.4))
    (quiet m.1 new (adds_these _ m.1 new m.5)))

pub has_quiet : (L : Layout) (tries k : ℕ) (old new : List Entry) (r : Result Bool CallFault)
    → IfOk r (λ b. HasDid L tries k old new b) → IfErr r (λ e. HasMissed L tries k old new) → Quiet old new
has_quiet L tries k old new (Ok b) did none' = looked_up L tries k old new b did
has_quiet L tries k old new (Err e) did none' = missed L tries k old new none'

-- ---- pins of the caller

lost_tries : (n : ℕ) (old new : List Entry) → LostTries event.Sight n old new → Quiet old new
lost_tries zero old new h = quiet_none old new h
lost_tries (suc n) old new h =
    quiet_then old h.0 new (lost_tries n old h.0 h.1)
    (quiet_then h.0 _ new (quiet h.0 _ (adds_these _ h.0 _ refl)) (quiet _ new (adds_these _ _ new h.2.2)))

pub pinned : (tries : ℕ) (old new : List Entry) (e : ℕ) → IsPinnedBy event.Sight tries old new e → Quiet old new
pinned tries old new e h =
    quiet_then old _ new (quiet old _ (adds_these _ old _ refl))
    (quiet_then _ h.2 new (lost_tries h.1 _ h.2 h.4)
    (quiet_then h.2 _ new (quiet h.2 _ (adds_these _ h.2 _ refl)) (quiet _ new (adds_these _ _ new h.5.1))))

pub moved_on : (tries : ℕ) (old new : List Entry) → IsMoved event.Sight tries old new → Quiet old new
moved_on zero old new h = quiet old new (adds_these _ old new h.1)
moved_on (suc n) old new h =
    quiet_then old _ new (quiet old _ (adds_these _ old _ refl))
    (quiet_then _ h.1 new (lost_tries (suc n) _ h.1 h.2) (quiet h.1 new (adds_these _ h.1 new h.3)))

pub left : (old new : List Entry) → new ≡ old ++ (event.Leave, reply.Departed) ∷ [] → Quiet old new
left old new is = quiet old new (adds_these _ old new is)

-- ---- looks at the epoch and at announcements

one_sight : (r : Reply) (old new : List Entry) → new ≡ old ++ (event.Sight, r) ∷ [] → Quiet old new
one_sight r old new is = quiet old new (adds_these _ old new is)

looks_at : (me : ℕ) (pin : Option ℕ) (v : ℕ) (found : Option ℕ) (old new : List Entry)
    → LooksAt me pin v found old new → Quiet old new
looks_at me pin v found old new (inl own) = quiet_none old new own.2
looks_at me pin v found old new (inr scan) = quiet old new (adds_these _ old new scan.1)

all_pass : (me : ℕ) (pin : Option ℕ) (e n : ℕ) (old new : List Entry) → AllLetPass me pin e n old new → Quiet old new
all_pass me pin e zero old new h = quiet_none old new h
all_pass me pin e (suc n) old new h = quiet_then old h.0 new (all_pass me pin e n old h.0 h.2)
    (looks_at me pin n h.1 h.0 new h.3)

scans : (me : ℕ) (pin : Option ℕ) (e n : ℕ) (old new : List Entry) → SightThenScans me pin e n old new → Quiet old new
scans me pin e n old new h = quiet_then old h.0 new (one_sight h.1.0 old h.0 h.1.2) (all_pass me pin e n h.0 new h.2)

pub advanced : (m me : ℕ) (pin : Option ℕ) (old new : List Entry) (a : Advance) → IsAdvance m me pin old new a
    → Quiet old new
advanced m me pin old new (advance.Moved next) h = quiet_then old h.1 new (scans me pin h.0 m old h.1 h.2)
    (quiet h.1 new (adds_these _ h.1 new h.4))
advanced m me pin old new (advance.Lost found) h = quiet_then old h.1 new (scans me pin h.0 m old h.1 h.2)
    (quiet h.1 new (adds_these _ h.1 new h.4))
advanced m me pin old new (advance.Held w at) h = quiet_then old h.1 new (scans me pin h.0 w old h.1 h.2)
    (looks_at me pin w (Some at) h.1 new h.5)
advanced m me pin old new advance.Spent h = scans me pin _ m old new h

all_watched : (me : ℕ) (pin : Option ℕ) (e n mask : ℕ) (old new : List Entry) → AllWatched me pin e n mask old new
    → Quiet old new
all_watched me pin e zero mask old new h = quiet_none old new h.0
all_watched me pin e (suc n) mask old new h = quiet_then old h.0 new (all_watched me pin e n h.2 old h.0 h.3)
    (looks_at me pin n h.1 h.0 new h.4)

pub watched : (me : ℕ) (pin : Option ℕ) (e n mask : ℕ) (old new : List Entry)
    → SightThenWatch me pin e n mask old new → Quiet old new
watched me pin e n mask old new h = quiet_then old h.0 new (one_sight h.1.0 old h.0 h.1.2)
    (all_watched me pin e n mask h.0 new h.2)

-- ---- freeing

none_freed : (f : List Entry → ℕ) (g : (e : Waiting) (xs : List Entry) → f (freeing e ∷ xs) ≡ f xs) → f [] ≡ 0
    → (es : List Waiting) → f (map freeing es) ≡ 0
none_freed f g z [] = z
none_freed f g z (e ∷ es) = g e (map freeing es) ∙ none_freed f g z es

pub freed : (old new : List Entry) (es : List Waiting) → new ≡ old ++ map freeing es → Quiet old new
freed old new es is =
    let all = adds_these (map freeing es) old new is in
    let l = none_freed won_links (λ e xs. refl) refl es in
    let f = none_freed won_flags (λ e xs. refl) refl es in
    let s = none_freed won_splices (λ e xs. refl) refl es in
    let la = all.links in
    let fa = all.flags in
    let sa = all.splices in
    record { links = omega (arith, l, la); flags = omega (arith, f, fa); splices = omega (arith, s, sa) }

pub collected : (old mid new : List Entry) (r : Reply) (es : List Waiting) → mid ≡ old ++ (event.Sight, r) ∷ []
    → new ≡ mid ++ map freeing es → Quiet old new
collected old mid new r es first rest = quiet_then old mid new (one_sight r old mid first) (freed mid new es rest)

-- ---- the logs for which a pass stands

pick : (f : List Entry → ℕ) (b c : Bool) (x y u v : List Entry) → b ≡ c → f x ≡ f y → u ≡ v
    → f (if b then x else u) ≡ f (if c then y else v)
pick f b true x y u v is own others = let P : Bool → Type 0 = λ d. f (if d then x else u) ≡ f y in subst P (sym is) own
pick f b false x y u v is own others = let P : Bool → Type 0 = λ d. f (if d then x else u) ≡ f v in
    subst P (sym is) (ap f others)

-- what is counted of each of them is as it was, where it is so of the own one
pub each_as_before : (f : List Entry → ℕ) (p q : PassView) → IsSamePass p q → f q.view.log ≡ f p.view.log → (o : ℕ)
    → f (log_held_of q.view o) ≡ f (log_held_of p.view o)
each_as_before f p q same own o =
    pick f (q.view.number == o) (p.view.number == o) q.view.log p.view.log (log_among o q.view.others)
    (log_among o p.view.others)
    (ap (λ (x : PassView). x.view.number == o) same)
    own
    (ap (λ (x : PassView). log_among o x.view.others) same)
