use Rattle.std.proofs.Common.{refl}
use Rattle.files.specs.Positions.{position_of}
use Rattle.files.proofs.Fronts.{front_end, front_found, front_cut, line_fits}
use Rattle.files.proofs.cursor.Cursor.front.Goals as goal

pub returns-then-is_empty : goal.returns-then-is_empty
returns-then-is_empty c = record { value = front_end (position_of c.args.self.now) _ refl c.if-is_empty.ensures; fits = tt }

pub returns : goal.returns
returns c = record {
  value = front_found (position_of c.args.self.now) _ refl c.in-Some.n c.in-Some.ensures;
  fits = line_fits (position_of c.args.self.now) _ refl c.in-Some.n c.args.self.now.within c.in-Some.ensures;
}

pub returns-in_default : goal.returns-in_default
returns-in_default c = record { value = front_cut (position_of c.args.self.now) _ refl c.if-is_empty.ensures c.in_default.ensures; fits = tt }
