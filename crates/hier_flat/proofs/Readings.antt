-- What is known of a hierarchy that was read.
use Rattle.std.proofs.Common.{subst, sym}
use Rattle.std.specs.List.{AllByRecursion}
use Rattle.semantics.specs.Net.{IsName}
use Rattle.blif_semantics.specs.Lines.{logical_lines, statements}
use Rattle.hierarchy_semantics.specs.Models.{Part, names_part, subckt_part, BlifModel, Hierarchy}
use Rattle.hierarchy_semantics.proofs.Members.{IsIn, each_in}
use Rattle.hierarchy_semantics.proofs.Placed.{IsGood}
use Rattle.hierarchy_semantics.proofs.Accepted.{read_parts, good_reading}
use Rattle.hierarchy_semantics.proofs.Formed.{IsFormed, formed, HasFormedParts}
use Rattle.hier_flat.specs.Hierarchies.{IsReading}
use Rattle.hier_flat.specs.Flattening.{IsFormedPart}
use Rattle.hier_flat.specs.Plans.{AreFormed}

pub reading_good : (h : Hierarchy) → IsReading h → IsGood h
reading_good h reading = good_reading reading.text reading.most h (read_parts reading.text reading.most h reading.read)

pub reading_formed : (h : Hierarchy) → IsReading h → (m : BlifModel) → IsIn m h → IsFormed m
reading_formed h reading m inside =
    let read = read_parts reading.text reading.most h reading.read in
    let lines = statements (logical_lines reading.text) in
    formed lines read.right m (subst (λ l. IsIn m l) (sym read.is) inside)

pub parts_formed : (m : BlifModel) → HasFormedParts m → AllByRecursion IsFormedPart m.parts
parts_formed m has = each_in IsFormedPart m.parts one
  where
    one : (p : Part) → IsIn p m.parts → IsFormedPart p
    one (names_part t) inside = has.tables t inside
    one (subckt_part c) inside = each_in (λ b. IsName b.actual) c.bindings (has.actuals c inside)

pub reading_all_formed : (h : Hierarchy) → IsReading h → AreFormed h
reading_all_formed h reading = each_in (λ m. AllByRecursion IsFormedPart m.parts) h (λ m inside. one m (reading_formed h reading m inside))
  where
    one : (m : BlifModel) → IsFormed m → AllByRecursion IsFormedPart m.parts
    one m formed = parts_formed m (record { tables = formed.tables; actuals = formed.actuals })
