use Rattle.std.proofs.Common.{ap, ◌∙◌, subst}
use Rattle.symbols.specs.Cells.{cell_of, cell_kind}
use Rattle.receiver.specs.History.Event.{received}
use Rattle.receiver.specs.Steps.{Step}
use Rattle.receiver.specs.View.{model}
use Rattle.receiver.proofs.Bytes.{header_read, cell_read}
use Rattle.receiver.proofs.Law.{goes_on}
use Rattle.receiver.proofs.block.runs.Block+Cell.packet.Goals as goal

pub returns : goal.returns
returns c =
    let bs = c.args.bytes.now in
    let h = header_read bs _ _ c.in_ok-block.ensures.answer in
    let x = c.new.ensures.value ∙ ap cell_of (cell_read bs _ c.in_ok-cell.ensures) in
    let step = subst (λ e. Step cell_kind (model c.args.self.now) e (model c.receive.new.self)) (λ i. received (h.1 i) c.args.stamp (h.2 i) (x i)) c.in_ok-receive.ensures.step in
    record {
      lent = c.in_ok-receive.ensures.lent;
      step = record { step = step; fault = h.0 };
      history = goes_on cell_kind _ _ _ c.args.self.now.marks.few step;
    }
