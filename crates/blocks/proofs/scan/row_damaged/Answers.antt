-- A row whose slots all part well is undamaged; any other is gone through.
use Rattle.std.proofs.Common.{◌≡◌, ℕ, ◌+◌, ◌-◌, ◌^◌, ◌<◌, true, take, drop, length, get_or, sym, ◌∙◌, arith, get_or-take}
use Rattle.blocks.proofs.Parting.{well-undamaged}
use Rattle.blocks.proofs.scan.row_damaged.Goals as goal

pub returns-else-not-all_part_well : goal.returns-else-not-all_part_well
returns-else-not-all_part_well c =
    let t = c.args.t in
    let row = c.args.row.now in
    let is : c.all_part_well.result ≡ true = c.if-not-all_part_well.false in
    let levels : t + 4 - t ≡ 4 = omega arith in
    let size : length row ≡ 2 ^ (t + 4 - t) = rw levels c.requires.2 in
    let same : (j : ℕ) → j < length row → get_or row j 0 ≡ get_or (take 16 (drop 0 row)) j 0 = λ j l. sym (get_or-take 16 row j 0 (omega arith)) in
    rw is (sym (well-undamaged t (t + 4) (take 16 (drop 0 row)) row (omega arith) size (omega arith) same (sym c.all_part_well.ensures ∙ is)))
