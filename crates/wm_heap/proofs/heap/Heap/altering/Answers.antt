use Rattle.std.proofs.Common.{◌++◌, ◌∷◌, [], is_some, sym, subst, ◌∙◌}
use Rattle.wm_heap.specs.Blobs.{WasRead}
use Rattle.wm_heap.specs.Content.{bytes_at, content}
use Rattle.wm_heap.specs.Places.{place_of}
use Rattle.wm_heap.proofs.Altering.{Leaving, Altered, leaving_pushed, leaving_skipped, standing_same, altered_pushed, altered_skipped}
use Rattle.wm_heap.proofs.heap.Heap.altering.Goals as goal

pub loop-blob-preserved-in-Continue-branch-2 : goal.loop-blob-preserved-in-Continue-branch-2
loop-blob-preserved-in-Continue-branch-2 g c =
    let inv = c.loop-blob.invariant in
    let did = c.in_ok-alters.ensures in
    record {
      leaving = subst (λ l. Leaving (λ id. is_some (place_of c.args.self.now id)) l (c.loop-blob.yielded ++ c.in-Some.blob ∷ [])) (sym c.in_ok-push.ensures.ok) (leaving_pushed _ _ _ c.in-Some.blob inv.leaving);
      told = λ t. did.told t ∙ inv.told t;
      past = λ t. did.past t ∙ inv.past t;
      source = did.source ∙ inv.source;
      in_use = did.in_use ∙ inv.in_use;
      in_file = did.in_file ∙ inv.in_file;
      faults = did.cause.done ∙ inv.faults;
      altered = λ t.
          subst (λ l. Altered (bytes_at (content (g.G.Pages.held c.args.pages.now) (g.G.Pages.in_use c.args.pages.now))) l (c.loop-blob.yielded ++ c.in-Some.blob ∷ [])) (sym c.in_ok-push.ensures.ok)
          (altered_pushed _ _ _ _ c.in-Some.blob c.in_ok-alters.field-0 (standing_same _ _ _ _ (inv.told t) inv.in_use) (inv.altered t) (did.alters t) (did.read t) c.if-branch.true);
      last = λ t. subst (WasRead c.alters.new.last) (inv.told t) (did.last t);
    }

pub loop-blob-preserved-else-branch : goal.loop-blob-preserved-else-branch
loop-blob-preserved-else-branch g c =
    let inv = c.loop-blob.invariant in
    let did = c.in_ok-alters.ensures in
    record {
      leaving = leaving_skipped _ _ _ c.in-Some.blob c.in_ok-alters.field-0 inv.leaving did.moved c.if-branch.false;
      told = λ t. did.told t ∙ inv.told t;
      past = λ t. did.past t ∙ inv.past t;
      source = did.source ∙ inv.source;
      in_use = did.in_use ∙ inv.in_use;
      in_file = did.in_file ∙ inv.in_file;
      faults = did.cause.done ∙ inv.faults;
      altered = λ t. altered_skipped _ _ _ _ c.in-Some.blob c.in_ok-alters.field-0 (standing_same _ _ _ _ (inv.told t) inv.in_use) (inv.altered t) (did.alters t) (did.read t) c.if-branch.false;
      last = λ t. subst (WasRead c.alters.new.last) (inv.told t) (did.last t);
    }

pub loop-blob-preserved : goal.loop-blob-preserved
loop-blob-preserved g c =
    let inv = c.loop-blob.invariant in
    let did = c.in_ok-alters.ensures in
    record {
      leaving = leaving_skipped _ _ _ c.in-Some.blob c.in_ok-alters.field-0 inv.leaving did.moved c.if-branch.false;
      told = λ t. did.told t ∙ inv.told t;
      past = λ t. did.past t ∙ inv.past t;
      source = did.source ∙ inv.source;
      in_use = did.in_use ∙ inv.in_use;
      in_file = did.in_file ∙ inv.in_file;
      faults = did.cause.done ∙ inv.faults;
      altered = λ t. altered_skipped _ _ _ _ c.in-Some.blob c.in_ok-alters.field-0 (standing_same _ _ _ _ (inv.told t) inv.in_use) (inv.altered t) (did.alters t) (did.read t) c.if-branch.false;
      last = λ t. subst (WasRead c.alters.new.last) (inv.told t) (did.last t);
    }
