use Rattle.std.proofs.Common.{map, arith, subst}
use Rattle.cad_values.specs.Values.{pure_entry, PureEntry}
use Rattle.cad_codec.specs.Code.Seen.{Adds}
use Rattle.cad_fits.specs.Table.{key_bytes}
use Rattle.cad_codec.proofs.Seen.{differs, repeats}
use Rattle.cad_fits.proofs.Simple.{key_at}
use Rattle.cad_fits.proofs.table.bytes_differ.Goals as goal

pub returns-then-not-branch : goal.returns-then-not-branch
returns-then-not-branch c =
    let at = key_at c.args.entries.now c.loop-entry.entry-index c.entry-item.result c.in_ok-key.key (omega arith) c.entry-item.is c.in_ok-key.ensures in
    let added = subst (Adds c.loop-entry.seen c.add_key.new.seen c.in_ok-key.key) c.if-not-branch.true c.in_ok-add_key.ensures in
    repeats c.loop-entry.seen c.add_key.new.seen (map (λ (x : PureEntry). key_bytes x.key) (map pure_entry c.args.entries.now)) c.loop-entry.entry-index c.in_ok-key.key c.loop-entry.invariant at added

pub loop-entry-preserved : goal.loop-entry-preserved
loop-entry-preserved c =
    let at = key_at c.args.entries.now c.loop-entry.entry-index c.entry-item.result c.in_ok-key.key (omega arith) c.entry-item.is c.in_ok-key.ensures in
    let added = subst (Adds c.loop-entry.seen c.add_key.new.seen c.in_ok-key.key) c.if-not-branch.false c.in_ok-add_key.ensures in
    differs c.loop-entry.seen c.add_key.new.seen (map (λ (x : PureEntry). key_bytes x.key) (map pure_entry c.args.entries.now)) c.loop-entry.entry-index c.in_ok-key.key c.loop-entry.invariant at added
