use Rattle.std.proofs.Common.{◌≡◌, ◌∙◌, ◌++◌, false, List, [], ◌∷◌, append_assoc, refl, sym, ap}
use Rattle.std.proofs.lemmas.List.Elements.{All-append, All-cons, All-nil}
use Rattle.nm_epoch.specs.declared.collecting.Entry.{Entry}
use Rattle.nm_tree.specs.MapReports.{is_leaf_at}
use Rattle.nm_set_c.proofs.map_reports.pop_leaf.Goals as goal

pub loop-entry-init : goal.loop-entry-init
loop-entry-init c = record {
  before = ([], refl, All-nil (λ (e : Entry). is_leaf_at c.args.values.now e.node.slot ≡ false));
  origin = refl;
  counts = refl;
}

pub loop-entry-preserved : goal.loop-entry-preserved
loop-entry-preserved c =
    let inv = c.loop-entry.invariant in
    let e = c.in-Some.entry in
    let P : Entry → Type 0 = λ (x : Entry). is_leaf_at c.args.values.now x.node.slot ≡ false in
    record {
      before = (
        inv.before.0 ++ e ∷ [],
        inv.before.1
            ∙ (ap (λ (es : List Entry). inv.before.0 ++ es) c.in-Some.ensures.popped.0
            ∙ sym (append_assoc inv.before.0 (e ∷ []) c.pop.new.self.items)),
        All-append P inv.before.0 (e ∷ []) inv.before.2 (All-cons P e [] (sym c.if-is_leaf.ensures) (All-nil P)),
      );
      origin = inv.origin;
      counts = inv.counts;
    }
