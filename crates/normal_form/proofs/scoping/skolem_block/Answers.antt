use Rattle.std.proofs.Common.{Some, ◌∙◌}
use Rattle.normal_form.proofs.Freshness.{block_arguments}
use Rattle.normal_form.proofs.scoping.skolem_block.Goals as goal

pub returns : goal.returns
returns c = λ sign.
    (let e = c.in_ok-args.ensures ∙ block_arguments c.args.blocks.now c.args.next c.args.first c.args.count c.args.part.now c.requires sign in
    λ i. record { first = c.args.first; count = c.args.count; skolems = Some (record { next = c.args.next; args = e i }) })
