use Rattle.std.proofs.Common.{◌≡◌, ◌+◌, ◌-◌, length, take, drop, sym, ap, ◌∙◌, arith}
use lib.Lanes.{put_chunk}
use Rattle.std.proofs.lemmas.Simd.{put_chunk_whole, length-chunk}
use Rattle.bits.proofs.Rows.{put_mid_is}
use Rattle.bits.proofs.row.store.Goals as goal

pub returns : goal.returns
returns c =
    let ws = c.args.words.now in
    let a = c.args.at in
    let line = c.args.line.now in
    let l : length line ≡ 8 = omega arith in
    let eight : (a + 8) - a ≡ 8 = omega arith in
    let long : length (take ((a + 8) - a) (drop a ws)) ≡ 8 = ap (λ n. length (take n (drop a ws))) eight ∙ length-chunk a 8 ws c.requires in
    let whole = put_chunk_whole (take ((a + 8) - a) (drop a ws)) line (long ∙ sym l) in
    put_mid_is a ((a + 8) - a) ws _ (ap length whole ∙ l ∙ sym eight) (omega arith) ∙ ap (put_chunk a ws) whole
