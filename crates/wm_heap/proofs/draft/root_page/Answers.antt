use Rattle.std.proofs.Common.{◌++◌, sym, ap, ◌∙◌}
use Rattle.wm_page.specs.Fields.{number_at}
use Rattle.wm_heap.specs.Plan.{root_of}
use Rattle.wm_heap.proofs.draft.root_page.Goals as goal

pub returns : goal.returns
unfolding root_of
returns c = record {
  page = c.in_ok-append.ensures.ok ∙ ap (λ b. b ++ c.write_number.new.bytes) c.new-bytes.ensures ∙ c.write_number.ensures.bytes;
  reads = ap (λ b. number_at b 0) (sym c.write_number.ensures.bytes) ∙ c.write_number.ensures.reads;
}
