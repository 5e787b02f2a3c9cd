pub mod WordSlices
mod PortNames
