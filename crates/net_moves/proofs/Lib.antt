pub mod Lists
pub mod NearOnes
pub mod PairRows
pub mod Making
