-- What the theory needs of a unit record that passes the checks. The limitations, which runs of valuing change, have no part in it.
use mathlib.Core.Path.{◌≡◌}
use mathlib.Core.Bool.{true}
use Prim.Native.Nat.{◌*◌, ◌≤◌}
use Rattle.commitment.specs.declared.Generator.{Generator}
use Rattle.commitment.specs.declared.Costs.{Costs}
use Rattle.commitment.specs.declared.Opening.{Opening}
use Rattle.commitment.specs.declared.UnitRecord.{UnitRecord}
use Rattle.commitment.specs.Bounds.{most_mw, most_blocks, most_time, most_vec, most_mlc, most_suc}
use Rattle.commitment.specs.Ranges.{ranges_kept, shape_kept}
use Rattle.commitment.proofs.Ranges.{in-range, in-shape}

pub record GroupsRanged (g : Generator) (k : Costs) (o : Opening) : Type 0 where
  pub block : 1 ≤ g.block
  pub pmin : 1 ≤ g.pmin
  pub pmax : g.pmin ≤ g.pmax
  pub pmax-most : g.pmax ≤ most_blocks
  pub top : g.pmax * g.block ≤ most_mw
  pub mot : 1 ≤ g.mot
  pub mot-most : g.mot ≤ most_time
  pub mdt : 1 ≤ g.mdt
  pub mdt-most : g.mdt ≤ most_time
  pub held : 1 ≤ o.held
  pub vec : k.vec ≤ most_vec
  pub mlc : k.mlc ≤ most_mlc
  pub suc : k.suc ≤ most_suc

abbrev pub Ranged : UnitRecord → Type 0
Ranged u = GroupsRanged u.generator u.costs u.opening

pub ranged : (u : UnitRecord) → ranges_kept u ≡ true → shape_kept u.generator ≡ true → Ranged u
ranged u h k =
    let r = in-range u h in
    let s = in-shape u.generator k in
    record {
      block = r.generator.block-least;
      pmin = r.generator.pmin-least;
      pmax = s.ordered;
      pmax-most = r.generator.pmax-most;
      top = s.most;
      mot = r.generator.mot-least;
      mot-most = r.generator.mot-most;
      mdt = r.generator.mdt-least;
      mdt-most = r.generator.mdt-most;
      held = r.opening.held-least;
      vec = r.costs.vec-most;
      mlc = r.costs.mlc-most;
      suc = r.costs.suc-most;
    }
