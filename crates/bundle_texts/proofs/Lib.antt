pub mod VectorCuts
pub mod CutTexts
pub mod ReportCuts
pub mod LogChecks
pub mod FormulaChecks
pub mod Fronts
pub mod JudgedVectors
pub mod ReportSizes
