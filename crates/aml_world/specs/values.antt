pub mod FormedStores
pub mod Operations
pub mod Searches
pub mod StoreTargets
pub mod Stores
pub mod WideOperations
